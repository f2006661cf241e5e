use Rattle.std.proofs.Common.{◌≡◌, map}
use Rattle.std.specs.List.{range_with_len}
use Rattle.dm_journey.specs.Inside.Reaching.{boarding_at}
use Rattle.dm_journey.proofs.reaching.departures.Given as goal

abbrev pub invariant-loop-i : goal.invariant-loop-i
invariant-loop-i l = l.reached.items ≡ map (boarding_at l.net l.times l.from l.after) (range_with_len 0 l.i)
