use Rattle.std.proofs.Common.{◌≡◌, ◌++◌}
use Rattle.std.specs.List.{flat_map, range_with_len}
use Rattle.dm_gen.specs.Activities.{links_of_train}
use Rattle.dm_gen.proofs.links.put_all_trains.Given as goal

abbrev pub invariant-loop-train : goal.invariant-loop-train
invariant-loop-train l = l.links.items ≡ l.fn.links.items ++ flat_map links_of_train (range_with_len 0 l.train)
