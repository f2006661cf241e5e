use Rattle.dm_live.proofs.Resting.{least_at_rest}
use Rattle.dm_live.proofs.laws.least_at_rest.Goals as goal

pub returns : goal.returns
returns c = least_at_rest
