use Rattle.std.proofs.Common.{◌≡◌, ◌++◌, map}
use Rattle.std.specs.List.{range_with_len}
use Rattle.dm_gen.specs.Activities.{change}
use Rattle.dm_gen.proofs.links.put_all_changes.Given as goal

abbrev pub invariant-loop-train : goal.invariant-loop-train
invariant-loop-train l = l.links.items ≡ l.fn.links.items ++ map change (range_with_len 0 l.train)
