use Rattle.dm_propagate.proofs.Following.{engine_least}
use Rattle.dm_propagate.proofs.laws.times_are_least.Goals as goal

pub returns : goal.returns
returns c = engine_least
