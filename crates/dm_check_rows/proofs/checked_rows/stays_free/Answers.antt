use Rattle.dm_check_rows.proofs.Acceptance.{stays_known}
use Rattle.dm_check_rows.proofs.checked_rows.stays_free.Goals as goal

pub returns-then-is_harmless : goal.returns-then-is_harmless
returns-then-is_harmless c = λ net rows sized free. stays_known net rows c.args.message.now c.args.is_free sized (c.is_harmless.ensures c.if-is_harmless.true) free
