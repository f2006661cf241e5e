-- Times that were least before what binds has changed.
use Rattle.std.specs.Prelude.{ℕ, ◌≡◌, ◌+◌, ◌<◌, ◌≤◌, ◌⊎◌, Bool, false, IsTrue, List, length, slice_index}
use Rattle.dm_graph.specs.Arcs.{Binds}
use Rattle.dm_graph.specs.Graph.{IsLeast}
use Rattle.dm_network.specs.Net.{Net, activity_at}
use Rattle.dm_network.specs.Held.{arcs_of, is_held}
use Rattle.dm_check_times.specs.Binding.{graph_with}
use Rattle.dm_marks.specs.Marked.{is_marked}

-- The times are least for what bound before. At an event that is not stale the floor has not fallen, or did not bind; the time
-- is above the floor now; what held it to its time holds it still, with a span that is no shorter; and the activities into it
-- that are held now are met.
pub record Follows (net : Net) (held : List Bool) (spans floors times : List ℕ) (stale : List Bool) : Type 0 where
  pub held_before : List Bool
  pub spans_before : List ℕ
  pub floor_before : ℕ → ℕ
  pub least : IsLeast (graph_with net held_before spans_before floor_before) (slice_index times)
  pub floors_kept : (e : ℕ) → e < length net.events → is_marked stale e ≡ false → (floor_before e ≤ slice_index floors e)
      ⊎ (floor_before e < slice_index times e)
  pub above : (e : ℕ) → e < length net.events → is_marked stale e ≡ false → slice_index floors e ≤ slice_index times e
  pub held_kept : (a : ℕ) → Binds (arcs_of net (is_held held_before)) a → is_marked stale (activity_at net a).head ≡ false →
      slice_index times (activity_at net a).head ≤ slice_index times (activity_at net a).tail + slice_index spans_before a →
      IsTrue (is_held held a) × (slice_index spans_before a ≤ slice_index spans a)
  pub met : (a : ℕ) → Binds (arcs_of net (is_held held)) a → is_marked stale (activity_at net a).head ≡ false →
      slice_index times (activity_at net a).tail + slice_index spans a ≤ slice_index times (activity_at net a).head
