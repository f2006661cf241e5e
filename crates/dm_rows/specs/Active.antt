-- Which activities bind under the rows, and their cycles.
use Rattle.std.specs.Prelude.{ℕ, ◌==◌, ◌<◌, ◌||◌, Bool, true, false, IsTrue, List, length, Option, Some, None, is_some, if◌then◌else◌}
use Rattle.dm_base.specs.declared.ids.ActId.{ActId}
use Rattle.dm_base.specs.declared.rows.ActKind.{ActKind}
use Rattle.dm_base.specs.declared.rows.ActKind.TheVariants.{Drive, Wait, Turnaround, Change, Headway}
use Rattle.dm_graph.specs.Arcs.{Arcs}
use Rattle.dm_network.specs.Net.{Net, activity_at}
use Rattle.dm_network.specs.Start.{first_event}
use Rattle.dm_network.specs.Held.{arcs_of, IsCycleOf, HasNoCycleOf, ShowsCycleOf}
use Rattle.dm_rows.specs.Rows.{RowsValue, passed_at, is_cancelled, kept_at, small_first_at}

abbrev pub has_passed : RowsValue → ℕ → Bool
has_passed rows i = is_some (passed_at rows i)

-- the tail or the head of the activity is cancelled
abbrev pub has_cancelled_end : Net → RowsValue → ℕ → Bool
has_cancelled_end net rows a = is_cancelled rows (activity_at net a).tail || is_cancelled rows (activity_at net a).head

-- the event goes first in the pair
abbrev pub is_first : Net → RowsValue → ℕ → ℕ → Bool
is_first net rows p i = i == first_event net p (small_first_at rows p)

-- a paired headway binds if its tail has passed or goes first
abbrev pub binds_in_pair : Net → RowsValue → ℕ → ℕ → Bool
binds_in_pair net rows p tail = if has_passed rows tail then true else is_first net rows p tail

-- what an activity of this kind, with this pair and tail, needs to bind from an event into one that has not passed, where neither
-- is cancelled
abbrev pub binds : Net → RowsValue → ActKind → Option ℕ → ℕ → ℕ → Bool
binds net rows Drive pair tail a = true
binds net rows Wait pair tail a = true
binds net rows Turnaround pair tail a = true
binds net rows Change pair tail a = kept_at rows a
binds net rows Headway None tail a = true
binds net rows Headway (Some p) tail a = binds_in_pair net rows p tail

-- An activity is active where neither its tail nor its head is cancelled, its head has not passed, and it is a drive, a wait, a
-- turnaround or an unpaired headway, or a kept change, or belongs to a pair in which its tail has passed, or in which neither
-- event has and its tail is first.
abbrev pub is_active : Net → RowsValue → ℕ → Bool
is_active net rows a =
    if has_cancelled_end net rows a then false
    else if has_passed rows (activity_at net a).head then false
    else binds net rows (activity_at net a).kind (activity_at net a).pair (activity_at net a).tail a

pub record IsActive (net : Net) (rows : RowsValue) (a : ℕ) : Type 0 where
  pub is_activity : a < length net.activities
  pub active : IsTrue (is_active net rows a)

-- the active activities as arcs
abbrev pub active_arcs : Net → RowsValue → Arcs
active_arcs net rows = arcs_of net (is_active net rows)

-- A cycle of the rows is a closed list of active activities: each head is the next tail, and the last head is the first tail.
abbrev pub IsCycle : Net → RowsValue → List ℕ → Type 0
IsCycle net rows cycle = IsCycleOf net (is_active net rows) cycle

abbrev pub HasNoCycle : Net → RowsValue → Type 0
HasNoCycle net rows = HasNoCycleOf net (is_active net rows)

-- a cycle, shown by the ids of its activities
abbrev pub ShowsCycle : Net → RowsValue → List ActId → Type 0
ShowsCycle net rows ids = ShowsCycleOf net (is_active net rows) ids
