-- Which activities a passenger can use in a timetable, and the walks along them from stop to stop.
use Rattle.std.specs.Prelude.{ℕ, ◌≡◌, ◌==◌, ◌+◌, ◌<◌, ◌&&◌, ◌||◌, nat_le, not, Bool, true, false, IsTrue, List, length, count_by}
use Rattle.dm_base.specs.declared.ids.StopId.{StopId}
use Rattle.dm_base.specs.declared.rows.ActKind.{ActKind}
use Rattle.dm_base.specs.declared.rows.ActKind.TheVariants.{Drive, Wait, Turnaround, Change, Headway}
use Rattle.dm_base.specs.declared.rows.EventKind.{EventKind}
use Rattle.dm_base.specs.declared.rows.EventKind.TheVariants.{Departure, Arrival}
use Rattle.dm_graph.specs.Arcs.{Arcs, Chain}
use Rattle.dm_network.specs.Net.{Net, event_at, activity_at, is_change}
use Rattle.dm_network.specs.Held.{arcs_of}
use Rattle.dm_rows.specs.Rows.{RowsValue, kept_at}
use Rattle.dm_rows.specs.Active.{has_passed, has_cancelled_end}
use Rattle.dm_rows.specs.Timetable.{time_at, span_of}
use Rattle.dm_rows.specs.Cost.{is_arrival}

-- a change is caught where its head is at least its lower bound and delay after its tail, and it is kept or its head has passed
abbrev pub is_caught : Net → RowsValue → List ℕ → ℕ → Bool
is_caught net rows x a =
    nat_le (time_at x (activity_at net a).tail + span_of net rows a) (time_at x (activity_at net a).head)
    && (kept_at rows a || has_passed rows (activity_at net a).head)

-- a passenger stays on a train that drives or waits, and changes trains; no passenger uses a turnaround or a headway
abbrev pub is_open : Net → RowsValue → List ℕ → ActKind → ℕ → Bool
is_open net rows x Drive a = true
is_open net rows x Wait a = true
is_open net rows x Change a = is_caught net rows x a
is_open net rows x Turnaround a = false
is_open net rows x Headway a = false

-- An activity is usable where it is a drive, a wait or a change neither of whose ends is cancelled and whose head is not before
-- its tail, and, if it is a change, it is caught.
abbrev pub is_usable : Net → RowsValue → List ℕ → ℕ → Bool
is_usable net rows x a =
    not (has_cancelled_end net rows a) && nat_le (time_at x (activity_at net a).tail) (time_at x (activity_at net a).head)
    && is_open net rows x (activity_at net a).kind a

-- the usable activities as arcs
abbrev pub usable_arcs : Net → RowsValue → List ℕ → Arcs
usable_arcs net rows x = arcs_of net (is_usable net rows x)

-- the event is a departure at this stop, at this time or later
abbrev pub is_departure : EventKind → Bool
is_departure Departure = true
is_departure Arrival = false

abbrev pub departs : Net → List ℕ → StopId → ℕ → ℕ → Bool
departs net x stop after e =
    is_departure (event_at net e).kind && ((event_at net e).stop.0 == stop.0) && nat_le after (time_at x e)

-- the event is an arrival at this stop
abbrev pub arrives : Net → StopId → ℕ → Bool
arrives net stop e = is_arrival (event_at net e).kind && ((event_at net e).stop.0 == stop.0)

-- how many of these activities are changes
abbrev pub changes_in : Net → List ℕ → ℕ
changes_in net walk = count_by (λ a. is_change (activity_at net a).kind) walk

-- A walk from one stop to another after a time, which arrives at `arrival` and has so many changes: usable activities, at least
-- one, each head the next tail. Its first tail is a departure at the one stop, at that time or later; its last head is an arrival
-- at the other, and the time of that is the arrival.
pub record IsWalk (net : Net) (rows : RowsValue) (x : List ℕ) (from to : StopId) (after : ℕ) (walk : List ℕ)
    (arrival changes : ℕ) : Type 0 where
  pub first : ℕ
  pub last : ℕ
  pub not_empty : 0 < length walk
  pub leads : Chain (usable_arcs net rows x) first walk last
  pub begins : IsTrue (departs net x from after first)
  pub ends : IsTrue (arrives net to last)
  pub arrives_at : arrival ≡ time_at x last
  pub counted : changes ≡ changes_in net walk
