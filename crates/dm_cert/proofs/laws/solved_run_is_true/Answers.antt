use Rattle.dm_cert.proofs.WorkedRun.{solved_run_is_true}
use Rattle.dm_cert.proofs.laws.solved_run_is_true.Goals as goal

pub returns : goal.returns
returns c = solved_run_is_true
