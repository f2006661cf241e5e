use Rattle.std.proofs.Common.{◌≡◌, map, take, get_or}
use Rattle.dm_network.specs.Net.{no_activity}
use Rattle.dm_network.proofs.arrays.ids_at.Given as goal

abbrev pub invariant-loop-a : goal.invariant-loop-a
invariant-loop-a l = l.ids.items ≡ map (λ a. (get_or l.activities a no_activity).id) (take l.a-index l.places)
