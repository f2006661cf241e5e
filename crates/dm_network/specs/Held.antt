-- The activities of a network as arcs, of which those that are held bind, and the cycles that these make.
use Rattle.std.specs.Prelude.{ℕ, ◌≡◌, Bool, false, List, length, map, slice_index_or}
use Rattle.dm_base.specs.declared.ids.ActId.{ActId}
use Rattle.dm_graph.specs.Arcs.{Arcs, IsCycle}
use Rattle.dm_network.specs.Net.{Net, activity_at}

-- the events and activities of a network as arcs, of which those in `held` bind
abbrev pub arcs_of : Net → (ℕ → Bool) → Arcs
arcs_of net held =
    record {
      events = length net.events;
      arcs = length net.activities;
      tail = λ a. (activity_at net a).tail;
      head = λ a. (activity_at net a).head;
      held = held;
    }

-- whether a list of flags, one for each activity, holds an activity
abbrev pub is_held : List Bool → ℕ → Bool
is_held flags a = slice_index_or flags a false

-- a closed list of held activities: each head is the next tail, and the last head is the first tail
abbrev pub IsCycleOf : Net → (ℕ → Bool) → List ℕ → Type 0
IsCycleOf net held cycle = IsCycle (arcs_of net held) cycle

abbrev pub HasNoCycleOf : Net → (ℕ → Bool) → Type 0
HasNoCycleOf net held = (cycle : List ℕ) → IsCycleOf net held cycle → ⊥

-- the ids of activities
abbrev pub ids_of : Net → List ℕ → List ActId
ids_of net places = map (λ a. (activity_at net a).id) places

-- a cycle of held activities, shown by their ids
pub record ShowsCycleOf (net : Net) (held : ℕ → Bool) (ids : List ActId) : Type 0 where
  pub places : List ℕ
  pub is_cycle : IsCycleOf net held places
  pub named : ids ≡ ids_of net places
