use Rattle.std.proofs.Common.{subst, sym, ◌∙◌}
use Rattle.std.specs.Prelude.{◌↔◌}
use Rattle.dm_network.specs.Net.{IsWithinLimits}
use Rattle.dm_network.specs.Start.{IsNetwork}
use Rattle.dm_cert.specs.Runs.{IsRunText}
use Rattle.dm_check.specs.FalseRecords.{IsVerdict}
use Rattle.dm_check.specs.Truth.{SaysGood}
use Rattle.dm_check.specs.declared.verdicts.Verdict.{Verdict}
use Rattle.dm_check.specs.declared.verdicts.Verdict.TheVariants.{Bad}
use Rattle.dm_restore.proofs.Judged.{logs_are_true, text_is_true, carried}
use Rattle.dm_restore.proofs.judging.judge_text.Goals as goal

pub returns-in-Ok-Good-clause-good : goal.returns-in-Ok-Good-clause-good
returns-in-Ok-Good-clause-good c =
    let plans = c.args.desk.now.plans in
    let table = c.args.desk.now.table in
    let network = subst IsNetwork c.network.ensures c.reveal-2.ensures.network in
    let limits = subst IsWithinLimits c.network.ensures c.reveal-2.ensures.within in
    let told = subst (λ (v : Verdict). SaysGood v ↔ IsRunText c.network-2.result.now c.start.result.now c.penalty.result plans c.deref.result.now) c.in-Ok-Good.field-0-is c.in-Ok-Good.ensures.good in
    logs_are_true plans table c.args.logs.now c.reveal.ensures.table network limits c.requires.spelled c.requires.sorted c.requires.some c.requires.few c.logs_are_held.ensures c.run_text.ensures.fits
    (carried (λ net start penalty text. IsRunText net start penalty plans text) _ _ _ _ _ _ _ _ c.network-2.ensures c.start.ensures c.penalty.ensures (c.deref.ensures.value ∙ c.in-Ok.ensures.text) (told.0 tt))

pub returns-in-Ok-Bad-clause-stops : goal.returns-in-Ok-Bad-clause-stops
returns-in-Ok-Bad-clause-stops c =
    let plans = c.args.desk.now.plans in
    let table = c.args.desk.now.table in
    let network = subst IsNetwork c.network.ensures c.reveal-2.ensures.network in
    let limits = subst IsWithinLimits c.network.ensures c.reveal-2.ensures.within in
    let text = c.deref.ensures.value ∙ c.in-Ok.ensures.text in
    let told = subst (λ (v : Verdict). SaysGood v ↔ IsRunText c.network-2.result.now c.start.result.now c.penalty.result plans c.deref.result.now) c.in-Ok-Bad.field-0-is c.in-Ok-Bad.ensures.good in
    let verdict = subst (λ (v : Verdict). IsVerdict c.network-2.result.now c.start.result.now c.penalty.result plans c.deref.result.now v) c.in-Ok-Bad.field-0-is c.in-Ok-Bad.ensures.verdict in
    record {
      verdict =
          carried (λ net start penalty t. IsVerdict net start penalty plans t (Bad c.in-Ok-Bad.line c.in-Ok-Bad.kind)) _ _ _ _ _ _ _ _ c.network-2.ensures c.start.ensures c.penalty.ensures text verdict;
      untrue = λ are.
          told.1
          (carried (λ net start penalty t. IsRunText net start penalty plans t) _ _ _ _ _ _ _ _ (sym c.network-2.ensures) (sym c.start.ensures) (sym c.penalty.ensures) (sym text)
          (text_is_true plans table c.args.logs.now c.reveal.ensures.table network limits c.requires.spelled c.requires.sorted c.requires.some c.requires.few c.logs_are_held.ensures c.run_text.ensures.fits are));
    }
