use Rattle.dm_cert.proofs.WorkedRun.{planned_run_is_true}
use Rattle.dm_cert.proofs.laws.planned_run_is_true.Goals as goal

pub returns : goal.returns
returns c = planned_run_is_true
