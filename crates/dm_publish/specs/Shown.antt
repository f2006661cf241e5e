-- What a board shows and what it tells of its soundness, against a network, a timetable and the cancelled events.
use Rattle.std.specs.Prelude.{ℕ, ◌≡◌, ◌<◌, ◌↔◌, ◌⊎◌, Contains, Bool, true, false, IsTrue, List, length, slice_index_or, Option, None, Some, ⊤}
use Rattle.dm_network.specs.Net.{Net, event_at}
use Rattle.dm_rows.specs.Timetable.{time_at}

-- the event at this place is at this stop
pub record IsAtStop (net : Net) (stop i : ℕ) : Type 0 where
  pub is_event : i < length net.events
  pub at_stop : (event_at net i).stop.0 ≡ stop

-- each event at the stop stands there with its time
abbrev pub AllStand : Net → List ℕ → ℕ → (ℕ → Option ℕ) → Type 0
AllStand net x stop shown = (i : ℕ) → IsAtStop net stop i → shown (event_at net i).id.0 ≡ Some (time_at x i)

-- A board of this stop shows a timetable where each event at the stop stands on it with its time. Of a board that does not
-- tell what it shows this says nothing.
abbrev pub ShowsTimes : Net → List ℕ → ℕ → Option (ℕ → Option ℕ) → Type 0
ShowsTimes net x stop None = ⊤
ShowsTimes net x stop (Some shown) = AllStand net x stop shown

-- each event at the stop is shown as cancelled exactly where it is
abbrev pub AllAreMarked : Net → List Bool → ℕ → (ℕ → Option Bool) → Type 0
AllAreMarked net cancelled stop flags =
    (i : ℕ) → IsAtStop net stop i → (flags (event_at net i).id.0 ≡ Some true) ↔ IsTrue (slice_index_or cancelled i false)

-- A board of this stop shows which events are cancelled. Of a board that does not tell that this says nothing.
abbrev pub ShowsCancelled : Net → List Bool → ℕ → Option (ℕ → Option Bool) → Type 0
ShowsCancelled net cancelled stop None = ⊤
ShowsCancelled net cancelled stop (Some flags) = AllAreMarked net cancelled stop flags

-- Of a board of this stop, and the events that were published as cancelled last, by place: each event at the stop that was
-- published is shown so. Where nothing was published, there is no such event.
abbrev pub ShowsCancelledLast : Net → List Bool → ℕ → Option (ℕ → Option Bool) → Type 0
ShowsCancelledLast net last stop None = ⊤
ShowsCancelledLast net last stop (Some flags) =
    (i : ℕ) → IsAtStop net stop i → i < length last →
    (flags (event_at net i).id.0 ≡ Some true) ↔ IsTrue (slice_index_or last i false)

-- Of a board of this stop, and the times that were published last, by place: each event at the stop that has such a time
-- stands on it with that time. Where nothing was published, there is no such event.
abbrev pub ShowsLast : Net → List ℕ → ℕ → Option (ℕ → Option ℕ) → Type 0
ShowsLast net last stop None = ⊤
ShowsLast net last stop (Some shown) = (i : ℕ) → IsAtStop net stop i → i < length last → shown (event_at net i).id.0 ≡ Some (time_at last i)

-- all that is no event at the stop stands there as before
abbrev pub KeepsOthers : {V : Type 0} → Net → ℕ → Option (ℕ → Option V) → Option (ℕ → Option V) → Type 0
KeepsOthers net stop None now = ⊤
KeepsOthers net stop (Some before) None = ⊥
KeepsOthers net stop (Some before) (Some now) =
    (event : ℕ) → ((i : ℕ) → IsAtStop net stop i → (event_at net i).id.0 ≡ event → ⊥) → now event ≡ before event

-- A board of this stop is sound for a network where it tells of each event at the stop that no show or cancel of it fails.
abbrev pub IsSoundFor : Net → ℕ → (ℕ → Type 0) → Type 0
IsSoundFor net stop is_sound = (i : ℕ) → IsAtStop net stop i → is_sound (event_at net i).id.0

-- the places of all events are listed that are cancelled otherwise than last, where something is known of last
abbrev pub ListsMarked : List Bool → List Bool → List ℕ → Type 0
ListsMarked last cancelled places =
    (i : ℕ) → i < length last → (slice_index_or last i false ≡ slice_index_or cancelled i false) ⊎ Contains places i
