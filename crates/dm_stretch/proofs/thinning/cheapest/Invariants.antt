use Rattle.std.proofs.Common.{◌+◌}
use Rattle.dm_stretch.specs.Inside.Thinning.{Finds}
use Rattle.dm_stretch.proofs.thinning.cheapest.Given as goal

abbrev pub invariant-loop-place : goal.invariant-loop-place
invariant-loop-place l = Finds (l.planned + l.most) l.costs l.place l.found
