-- When lists are an order of held activities, and which activities are held.
use Rattle.std.specs.Prelude.{ℕ, ◌≡◌, ◌==◌, ◌<◌, Bool, true, false, IsTrue, List, length, slice_index, if◌then◌else◌}
use Rattle.std.specs.List.{list_any}
use Rattle.dm_graph.specs.Arrays.{AreRanks}
use Rattle.dm_network.specs.Net.{Net, activity_at}
use Rattle.dm_network.specs.Held.{is_held}
use Rattle.dm_rows.specs.Rows.{RowsValue}
use Rattle.dm_rows.specs.Active.{has_passed, is_active}
use Rattle.dm_order.specs.Value.{OrderValue}

-- an activity goes forward where its tail stands before its head
abbrev pub GoesForward : Net → List ℕ → ℕ → Type 0
GoesForward net ranks a = slice_index ranks (activity_at net a).tail < slice_index ranks (activity_at net a).head

-- each held activity goes forward
abbrev pub GoForward : Net → List Bool → List ℕ → Type 0
GoForward net held ranks = (a : ℕ) → a < length net.activities → IsTrue (is_held held a) → GoesForward net ranks a

-- It is an order of the network's events: the list has each of them at its rank, there is a flag for each activity, and
-- each held activity goes forward.
pub record IsOrderOf (net : Net) (order : OrderValue) : Type 0 where
  pub ranked : AreRanks (length net.events) order.order order.ranks
  pub flag_count : length order.held ≡ length net.activities
  pub forward : GoForward net order.held order.ranks

-- the activity is active, and neither of its events has passed
abbrev pub is_ordered : Net → RowsValue → ℕ → Bool
is_ordered net rows a = if has_passed rows (activity_at net a).tail then false else is_active net rows a

-- the activity is one of these
abbrev pub is_among : List ℕ → ℕ → Bool
is_among arcs a = list_any (λ b. a == b) arcs

-- the activity is one of these, or held
abbrev pub held_with : List Bool → List ℕ → ℕ → Bool
held_with held arcs a = if is_among arcs a then true else is_held held a

-- the activity is held, and is none of these
abbrev pub held_without : List Bool → List ℕ → ℕ → Bool
held_without held arcs a = if is_among arcs a then false else is_held held a
