use Rattle.std.proofs.Common.{◌≡◌, map}
use Rattle.std.specs.List.{range_with_len}
use Rattle.dm_network.specs.Inside.Stages.{standing_at}
use Rattle.dm_network.proofs.arrays.standings.Given as goal

abbrev pub invariant-loop-place : goal.invariant-loop-place
invariant-loop-place l = l.standings.items ≡ map (standing_at l.events) (range_with_len 0 l.place)
