use Rattle.dm_settle.proofs.Least.{least_is_settled}
use Rattle.dm_settle.proofs.laws.least_is_settled.Goals as goal

pub returns : goal.returns
returns c = least_is_settled
