use Rattle.dm_settle.proofs.Early.{least_is_early}
use Rattle.dm_settle.proofs.laws.least_is_early.Goals as goal

pub returns : goal.returns
returns c = least_is_early
