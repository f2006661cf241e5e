use Rattle.dm_propagate.proofs.Following.{engine_no_cycle}
use Rattle.dm_propagate.proofs.laws.rows_have_no_cycle.Goals as goal

pub returns : goal.returns
returns c = engine_no_cycle
