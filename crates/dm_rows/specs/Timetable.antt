-- Which timetables meet the rows, and which is least. A timetable is a list of times in seconds, by place of the event.
use Rattle.std.specs.Prelude.{ℕ, ◌≡◌, ◌+◌, ◌<◌, ◌≤◌, max, Bool, IsTrue, List, length, None, Some, slice_index_or, unwrap_or}
use Rattle.dm_graph.specs.Graph.{Graph}
use Rattle.dm_network.specs.Net.{Net, event_at, activity_at}
use Rattle.dm_network.specs.Held.{arcs_of}
use Rattle.dm_rows.specs.Rows.{RowsValue, event_delay_at, act_delay_at, passed_at}
use Rattle.dm_rows.specs.Active.{is_active}

abbrev pub time_at : List ℕ → ℕ → ℕ
time_at x i = slice_index_or x i 0

-- the scheduled time and the event's own delay
abbrev pub planned_time : Net → RowsValue → ℕ → ℕ
planned_time net rows i = (event_at net i).time + event_delay_at rows i

-- the lower bound and the activity's own delay
abbrev pub span_of : Net → RowsValue → ℕ → ℕ
span_of net rows a = (activity_at net a).lower + act_delay_at rows a

-- A timetable meets the rows holding some of the activities where each passed event has its passed time, every other event
-- is not before its scheduled time and delay and not before the clock, and the head of each held activity is at least its
-- lower bound and delay after the tail.
pub record MeetsHolding (net : Net) (rows : RowsValue) (held : ℕ → Bool) (x : List ℕ) : Type 0 where
  pub size : length x ≡ length net.events
  pub passed : (i t : ℕ) → i < length net.events → passed_at rows i ≡ Some t → time_at x i ≡ t
  pub above : (i : ℕ) → i < length net.events → passed_at rows i ≡ None → planned_time net rows i ≤ time_at x i
  pub clock : (i : ℕ) → i < length net.events → passed_at rows i ≡ None → rows.clock ≤ time_at x i
  pub along : (a : ℕ) → a < length net.activities → IsTrue (held a) →
      time_at x (activity_at net a).tail + span_of net rows a ≤ time_at x (activity_at net a).head

-- A timetable is least for the rows holding these activities where it meets them so, and is at every event at most any other
-- that does.
pub record IsLeastHolding (net : Net) (rows : RowsValue) (held : ℕ → Bool) (x : List ℕ) : Type 0 where
  pub meets : MeetsHolding net rows held x
  pub earliest : (y : List ℕ) → MeetsHolding net rows held y → (i : ℕ) → i < length net.events → time_at x i ≤ time_at y i

-- A timetable meets the rows where it meets them holding the active activities: the head of each active activity is at
-- least its lower bound and delay after the tail.
abbrev pub Meets : Net → RowsValue → List ℕ → Type 0
Meets net rows x = MeetsHolding net rows (is_active net rows) x

-- A timetable is least where it meets the rows, and is at every event at most any other that meets them.
abbrev pub IsLeast : Net → RowsValue → List ℕ → Type 0
IsLeast net rows x = IsLeastHolding net rows (is_active net rows) x

-- the least time of an event by itself: its passed time, or else the later of its planned time and the clock
abbrev pub floor_of : Net → RowsValue → ℕ → ℕ
floor_of net rows i = unwrap_or (passed_at rows i) (max (planned_time net rows i) rows.clock)

-- the rows as a graph of the general theory, with the held activities as arcs
abbrev pub graph_holding : Net → RowsValue → (ℕ → Bool) → Graph
graph_holding net rows held =
    record {
      shape = arcs_of net held;
      span = span_of net rows;
      floor = floor_of net rows;
    }

-- the same with the active activities, of which none enters a passed event
abbrev pub graph_of : Net → RowsValue → Graph
graph_of net rows = graph_holding net rows (is_active net rows)
