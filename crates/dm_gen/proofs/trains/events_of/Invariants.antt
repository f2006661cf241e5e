use Rattle.std.proofs.Common.{◌≡◌}
use Rattle.std.specs.List.{flat_map, range_with_len}
use Rattle.dm_gen.specs.Trains.{events_of_train}
use Rattle.dm_gen.proofs.trains.events_of.Given as goal

abbrev pub invariant-loop-train : goal.invariant-loop-train
invariant-loop-train l = l.events.items ≡ flat_map events_of_train (range_with_len 0 l.train)
