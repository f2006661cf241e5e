use Rattle.std.proofs.Common.{◌≡◌, ◌++◌, drop}
use Rattle.dm_stretch.specs.Inside.Thinning.{with_worths}
use Rattle.dm_stretch.proofs.thinning.worths.Given as goal

abbrev pub invariant-loop-place : goal.invariant-loop-place
invariant-loop-place l =
    l.kept.items ++ with_worths l.cost (drop l.place l.decisions) (drop l.place l.costs) ≡ with_worths l.cost l.decisions l.costs
