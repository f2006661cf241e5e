use Rattle.std.proofs.Common.{◌≡◌, map}
use Rattle.std.specs.List.{range_with_len}
use Rattle.dm_journey.specs.Walks.{is_usable}
use Rattle.dm_journey.proofs.riding.usable_activities.Given as goal

abbrev pub invariant-loop-a : goal.invariant-loop-a
invariant-loop-a l = l.usable.items ≡ map (is_usable l.net l.rows l.times) (range_with_len 0 l.a)
