-- An event with its scheduled time as one number.
use Rattle.std.specs.Prelude.{ℕ, ◌+◌, ◌*◌, ◌/◌, ◌%◌}
use Rattle.dm_schedule.specs.declared.schedule.Scheduled.{Scheduled}
use Rattle.dm_schedule.specs.declared.schedule.TheConstants.{PLACES}

abbrev pub key_of : Scheduled → ℕ
key_of s = s.time * PLACES + s.event

abbrev pub scheduled_of : ℕ → Scheduled
scheduled_of key = record { time = key / PLACES; event = key % PLACES }
