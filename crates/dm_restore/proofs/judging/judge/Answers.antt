use Rattle.std.proofs.Common.{Bool, refl, subst}
use Rattle.std.specs.Prelude.{IsTrue, ◌↔◌}
use Rattle.dm_cert.specs.Logs.{AreTrueLogs}
use Rattle.dm_table_desk.specs.Tables.{setting_of}
use Rattle.dm_restore.proofs.judging.judge.Goals as goal

pub returns-in-Ok-true-clause-good : goal.returns-in-Ok-true-clause-good
returns-in-Ok-true-clause-good c =
    let table = c.args.desk.now.table in
    (subst (λ (good : Bool). IsTrue good ↔ AreTrueLogs (setting_of c.args.desk.now.plans table) table.history c.args.logs.now) c.in-Ok-true.field-0-test c.in-Ok-true.ensures).0 refl
