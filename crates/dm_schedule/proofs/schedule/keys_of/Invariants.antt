use Rattle.std.proofs.Common.{◌≡◌, map}
use Rattle.std.specs.List.{range_with_len}
use Rattle.dm_schedule.specs.Schedule.{scheduled_at}
use Rattle.dm_schedule.specs.Inside.Keys.{key_of}
use Rattle.dm_schedule.proofs.schedule.keys_of.Given as goal

abbrev pub invariant-loop-i : goal.invariant-loop-i
invariant-loop-i l = l.keys.items ≡ map (λ i. key_of (scheduled_at l.net i)) (range_with_len 0 l.i)
