-- What binds between the events of a network, given by plain lists, and times from which rounds may begin.
use Rattle.std.specs.Prelude.{ℕ, ◌≡◌, ◌+◌, ◌^◌, ◌<◌, ◌≤◌, Bool, false, List, length, slice_index, slice_index_or}
use Rattle.dm_base.specs.declared.limits.TheConstants.{BOUND, DELAY}
use Rattle.dm_graph.specs.Arcs.{Binds}
use Rattle.dm_graph.specs.Graph.{Graph, Meets}
use Rattle.dm_network.specs.Net.{Net}
use Rattle.dm_network.specs.Held.{arcs_of, is_held}
use Rattle.dm_rows.specs.Rows.{RowsValue}
use Rattle.dm_rows.specs.Timetable.{floor_of, span_of}

-- the held activities with these spans, over any floors
abbrev pub graph_with : Net → List Bool → List ℕ → (ℕ → ℕ) → Graph
graph_with net held spans floor =
    record {
      shape = arcs_of net (is_held held);
      span = λ a. slice_index spans a;
      floor = floor;
    }

-- there is a flag and a span for each activity, and no span is above a lower bound and a delay
pub record AreBindings (net : Net) (held : List Bool) (spans : List ℕ) : Type 0 where
  pub flags : length held ≡ length net.activities
  pub as_many : length spans ≡ length net.activities
  pub short : (a : ℕ) → slice_index spans a ≤ BOUND + DELAY

-- no event is later than in any timetable that meets the graph
abbrev pub IsEarly : Graph → (ℕ → ℕ) → Type 0
IsEarly g x = (y : ℕ → ℕ) → Meets g y → (e : ℕ) → e < g.shape.events → x e ≤ y e

abbrev pub is_due : List Bool → ℕ → Bool
is_due due e = slice_index_or due e false

-- Rounds may begin from times that lie above the floors and are early, where each event is due that binds some head which
-- comes too soon after it.
pub record MayBegin (g : Graph) (times : List ℕ) (due : List Bool) : Type 0 where
  pub above : (e : ℕ) → e < g.shape.events → g.floor e ≤ slice_index times e
  pub early : IsEarly g (slice_index times)
  pub met : (a : ℕ) → Binds g.shape a → is_due due (g.shape.tail a) ≡ false →
      slice_index times (g.shape.tail a) + g.span a ≤ slice_index times (g.shape.head a)

-- ---- rows

-- the flags tell of each activity whether it holds
abbrev pub AreFlags : Net → (ℕ → Bool) → List Bool → Type 0
AreFlags net holds flags = (a : ℕ) → a < length net.activities → is_held flags a ≡ holds a

-- a span for each activity, which is that of the rows
pub record AreSpansOf (net : Net) (rows : RowsValue) (spans : List ℕ) : Type 0 where
  pub as_many : length spans ≡ length net.activities
  pub each : (a : ℕ) → a < length net.activities → slice_index spans a ≡ span_of net rows a

-- each event has its least time by itself
pub record AreFloorsOf (net : Net) (rows : RowsValue) (times : List ℕ) : Type 0 where
  pub as_many : length times ≡ length net.events
  pub each : (i : ℕ) → i < length net.events → slice_index times i ≡ floor_of net rows i

-- every time is below the limit of all times
abbrev pub AreBelowLimit : List ℕ → Type 0
AreBelowLimit times = (i : ℕ) → slice_index times i < 2 ^ 38
