-- The events of a network by their scheduled times.
use Rattle.std.specs.Prelude.{ℕ, ◌≡◌, ◌<◌, List, length, map, slice_index_or}
use Rattle.std.specs.List.{range_with_len}
use Rattle.std.specs.List.Sorted.{IsPermutation, IsNonDecreasingBy}
use Rattle.dm_network.specs.Net.{Net, event_at}
use Rattle.dm_schedule.specs.declared.schedule.Scheduled.{Scheduled}

-- an event with its scheduled time
abbrev pub scheduled_at : Net → ℕ → Scheduled
scheduled_at net i = record { time = (event_at net i).time; event = i }

-- all events with their scheduled times, which do not fall from each to the next
pub record IsScheduleOf (net : Net) (schedule : List Scheduled) : Type 0 where
  pub all : IsPermutation (map (scheduled_at net) (range_with_len 0 (length net.events))) schedule
  pub rising : IsNonDecreasingBy (λ (s : Scheduled). s.time) schedule

-- the event stands among the first n of these
abbrev pub IsInFront : List Scheduled → ℕ → ℕ → Type 0
IsInFront due n i = (k : ℕ) × (k < n) × ((d : Scheduled) → (slice_index_or due k d).event ≡ i)
