use Rattle.dm_traverse.proofs.Started.{a_hole_is_a_start}
use Rattle.dm_search.proofs.laws.a_hole_is_a_start.Goals as goal

pub returns : goal.returns
returns c = a_hole_is_a_start
