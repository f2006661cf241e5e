use Rattle.std.proofs.Common.{length, subst}
use Rattle.std.specs.Prelude.{IfErr}
use Rattle.dm_table.specs.Answers.{RefusesPost}
use Rattle.dm_table.specs.Value.{TableValue}
use Rattle.dm_table_desk.proofs.Desks.{answer_after}
use Rattle.dm_table_desk.proofs.entering.enter.Goals as goal

pub returns-in-Ok-clause-refused : goal.returns-in-Ok-clause-refused
returns-in-Ok-clause-refused c =
    let refuses : TableValue → Type 0 = λ t. IfErr c.post_with.result (RefusesPost t.network t.rows (length t.history) c.args.entry.message) in
    answer_after c.args.table.now c.reveal.ensures.table c.args.entry.message c.post_with.result
    (subst refuses c.in-Ok.ensures.ok c.post_with.ensures.refused)
