use Rattle.dm_cert.proofs.OneDispatcher.{true_logs_are_one_dispatchers}
use Rattle.dm_cert.proofs.laws.true_logs_are_one_dispatchers.Goals as goal

pub returns : goal.returns
returns c = true_logs_are_one_dispatchers
