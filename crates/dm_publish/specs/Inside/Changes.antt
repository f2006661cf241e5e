-- Listed events, and what was published last.
use Rattle.std.specs.Prelude.{ℕ, ◌≡◌, ◌<◌, ◌≤◌, ◌⊎◌, Bool, false, List, length, slice_index_or, All}
use Rattle.dm_network.specs.Net.{Net, event_at}
use Rattle.dm_rows.specs.Timetable.{time_at}
use Rattle.dm_publish.specs.Value.{Published}
use Rattle.dm_publish.specs.declared.changes.Listed.{Listed}

-- the place of the event that stands at a place of a list, and 0 past its end
abbrev pub no_listed : Listed
no_listed = record { stop = record { 0 = 0 }; place = 0 }

abbrev pub place_at : List Listed → ℕ → ℕ
place_at listed k = (slice_index_or listed k no_listed).place

-- from its k-th place on a list has this event
pub record StandsFrom (listed : List Listed) (k i : ℕ) : Type 0 where
  pub at : ℕ
  pub from : k ≤ at
  pub within : at < length listed
  pub is : place_at listed at ≡ i

-- a list has this event
abbrev pub StandsIn : List Listed → ℕ → Type 0
StandsIn listed i = StandsFrom listed 0 i

-- the time at this place is the last one
pub record HasLast (last x : List ℕ) (i : ℕ) : Type 0 where
  pub within : i < length last
  pub same : time_at last i ≡ time_at x i

-- the event at this place is cancelled exactly where it was last
pub record HasLastFlag (last x : List Bool) (i : ℕ) : Type 0 where
  pub within : i < length last
  pub same : slice_index_or last i false ≡ slice_index_or x i false

-- Of the events of a timetable, the list has each whose time is not the last one, or that is cancelled or runs otherwise than last.
pub record ListsChanges (last x : Published) (listed : List Listed) : Type 0 where
  pub each : (i : ℕ) → i < length x.times → StandsIn listed i ⊎ (HasLast last.times x.times i × HasLastFlag last.cancelled x.cancelled i)
  pub within : All (λ l. l.place < length x.times) listed

-- of as many values, the list has the place of each that is not the last one
pub record ListsDifferences {V : Type 0} (last now : List V) (listed : List Listed) : Type 0 where
  pub each : (i : ℕ) (v : V) → i < length now → length last ≡ length now →
      StandsIn listed i ⊎ (slice_index_or last i v ≡ slice_index_or now i v)
  pub within : All (λ l. l.place < length now) listed

-- each event is listed with its stop
abbrev pub AreAtStops : Net → List Listed → Type 0
AreAtStops net listed = All (λ l. l.stop.0 ≡ (event_at net l.place).stop.0) listed

-- with the values of the first k of these events written, each other that is not the right one is still to be written
pub record AreWritten {V : Type 0} (now x : List V) (listed : List Listed) (k : ℕ) : Type 0 where
  pub size : length now ≡ length x
  pub each : (i : ℕ) (v : V) → i < length x → StandsFrom listed k i ⊎ (slice_index_or now i v ≡ slice_index_or x i v)
