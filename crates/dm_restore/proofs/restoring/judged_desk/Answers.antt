use Rattle.std.proofs.Common.{ap, subst, sym, ◌∙◌, arith}
use Rattle.std.proofs.lemmas.List.Elements.{All-nil}
use Rattle.dm_feed.specs.Lines.{HasSortedChoice}
use Rattle.dm_rows.specs.declared.messages.Entry.{Entry}
use Rattle.dm_restore.specs.Inside.Entering.{AreSorted}
use Rattle.dm_rows.specs.History.{IsLegal}
use Rattle.dm_cert.specs.Answers.{Setting}
use Rattle.dm_cert.specs.Logs.{AreTrueLogs}
use Rattle.dm_restore.specs.Start.{setting_of_head}
use Rattle.dm_restore.proofs.Backs.{is_stopped}
use Rattle.dm_restore.proofs.restoring.judged_desk.Goals as goal

pub judge-requires-clause-plans : goal.judge-requires-clause-plans
judge-requires-clause-plans c =
    let same = ap (λ (s : Setting). s.plans) (c.enter_logs.ensures.setting ∙ c.in-Ok.ensures.setting) in
    omega (arith, same, c.requires.plans)

pub returns-in-Ok-judge-clause-good : goal.returns-in-Ok-judge-clause-good
returns-in-Ok-judge-clause-good c = record { setting = c.enter_logs.ensures.setting ∙ c.in-Ok.ensures.setting; is_table = c.judge.ensures.table; good = c.in-Ok-judge.ensures.good }

pub returns-clause-stops : goal.returns-clause-stops
returns-clause-stops c =
    let s = setting_of_head c.args.net.now c.args.start c.args.head in
    is_stopped s c.args.logs.now c.enter_logs.new.desk.plans c.enter_logs.new.desk.table c.in-Err-judge.stop (c.enter_logs.ensures.setting ∙ c.in-Ok.ensures.setting) c.judge.ensures.table
    (λ history legal are.
    c.in-Ok-enter_logs.ensures.enters c.in-Ok.ensures.none history (subst (λ (t : Setting). IsLegal t.net t.start history) (sym c.in-Ok.ensures.setting) legal)
    (subst (λ (t : Setting). AreTrueLogs t history c.args.logs.now) (sym c.in-Ok.ensures.setting) are))
    c.in-Err-judge.ensures.stops

pub judge-requires-clause-sorted : goal.judge-requires-clause-sorted
judge-requires-clause-sorted c =
    c.enter_logs.ensures.sorted (subst AreSorted (sym c.in-Ok.ensures.none) (All-nil (λ (e : Entry). HasSortedChoice e.message)))
