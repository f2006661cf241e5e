use Rattle.dm_cert.proofs.TrueLogs.{log_grows}
use Rattle.dm_cert.proofs.laws.logs_stay_true.Goals as goal

pub returns : goal.returns
returns c = log_grows
