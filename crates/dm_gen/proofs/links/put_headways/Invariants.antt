use Rattle.std.proofs.Common.{◌≡◌, ◌+◌, ◌++◌}
use Rattle.std.specs.List.{flat_map, range_with_len}
use Rattle.dm_gen.specs.Activities.{headways_on_leg}
use Rattle.dm_gen.proofs.links.put_headways.Given as goal

abbrev pub invariant-loop-leg : goal.invariant-loop-leg
invariant-loop-leg l = l.links.items ≡ l.fn.links.items ++ flat_map (headways_on_leg l.train (l.train + 8)) (range_with_len 0 l.leg)
