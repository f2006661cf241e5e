use Rattle.std.proofs.Common.{◌≡◌, ◌++◌, map}
use Rattle.std.specs.List.{range_with_len}
use Rattle.dm_gen.specs.Activities.{drive}
use Rattle.dm_gen.proofs.links.put_drives.Given as goal

abbrev pub invariant-loop-leg : goal.invariant-loop-leg
invariant-loop-leg l = l.links.items ≡ l.fn.links.items ++ map (drive l.train) (range_with_len 0 l.leg)
