-- The delays of the start rows, made of one file's records at a time.
use Rattle.std.specs.Prelude.{map, [], slice_index_or, ℕ, ◌≡◌, ◌≤◌, List, Option, length}
use Rattle.std.specs.List.{range_with_len}
use Rattle.dm_base.specs.declared.rows.DelayRow.{DelayRow}
use Rattle.dm_base.specs.declared.limits.TheConstants.{DELAY}
use Rattle.dm_network.specs.Net.{Net, event_at, activity_at}
use Rattle.dm_rows.specs.declared.messages.StartFault.{StartFault}
use Rattle.dm_rows.specs.declared.messages.StartFault.TheVariants.{UnknownEvent, UnknownActivity, OutOfMemory}
use Rattle.dm_rows.specs.declared.starting.Delayed.{Delayed}
use Rattle.dm_rows.specs.declared.starting.Delayed.TheVariants.{Events, Activities}
use Rattle.dm_rows.specs.Rows.{RowsValue, last_delay, start_rows_of}
use Rattle.dm_rows.specs.StartFaults.{IsFirstUnknown, event_numbered, activity_numbered}

-- how many events, activities there are, the number of each by its place, and the place by its number
abbrev pub count_of : Net → Delayed → ℕ
count_of net Events = length net.events
count_of net Activities = length net.activities

abbrev pub number_of : Net → Delayed → ℕ → ℕ
number_of net Events i = (event_at net i).id.0
number_of net Activities a = (activity_at net a).id.0

abbrev pub place_numbered : Net → Delayed → ℕ → Option ℕ
place_numbered net Events = event_numbered net
place_numbered net Activities = activity_numbered net

-- that no event, no activity has this number
abbrev pub unknown : Delayed → ℕ → StartFault
unknown Events number = UnknownEvent (record { 0 = number })
unknown Activities number = UnknownActivity (record { 0 = number })

-- what the records of one file alone may be refused for
abbrev pub RefusesDelays : Net → Delayed → List DelayRow → StartFault → Type 0
RefusesDelays net delayed records OutOfMemory = Unit {0}
RefusesDelays net Events records (UnknownEvent id) = IsFirstUnknown (event_numbered net) records id.0
RefusesDelays net Activities records (UnknownActivity id) = IsFirstUnknown (activity_numbered net) records id.0
RefusesDelays net _ records _ = ⊥

-- as many delays as there are ids, each by the last record of its id, and at most DELAY
pub record AreDelaysOf (count : ℕ) (number : ℕ → ℕ) (records : List DelayRow) (delays : List ℕ) : Type 0 where
  pub are : delays ≡ map (λ i. last_delay records (number i)) (range_with_len 0 count)
  pub within : (i : ℕ) → slice_index_or delays i 0 ≤ DELAY

-- the start rows with these delays
abbrev pub IsStartWith : Net → List ℕ → List ℕ → RowsValue → Type 0
IsStartWith net event_delays act_delays rows =
    rows ≡ record (start_rows_of net [] []) { event_delays = event_delays; act_delays = act_delays }
