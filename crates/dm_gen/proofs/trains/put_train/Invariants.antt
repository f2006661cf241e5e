use Rattle.std.proofs.Common.{◌≡◌, ◌++◌}
use Rattle.std.specs.List.{flat_map, range_with_len}
use Rattle.dm_gen.specs.Trains.{events_of_leg}
use Rattle.dm_gen.proofs.trains.put_train.Given as goal

abbrev pub invariant-loop-leg : goal.invariant-loop-leg
invariant-loop-leg l = l.events.items ≡ l.fn.events.items ++ flat_map (events_of_leg l.train) (range_with_len 0 l.leg)
