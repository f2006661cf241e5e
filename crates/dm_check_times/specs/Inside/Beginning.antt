-- Times that begin from those of other activities than are held.
use Rattle.std.specs.Prelude.{ℕ, ◌≡◌, ◌<◌, ◌⊎◌, Bool, true, List, length}
use Rattle.dm_network.specs.Net.{Net, activity_at}
use Rattle.dm_network.specs.Held.{is_held}
use Rattle.dm_check_times.specs.Binding.{is_due}
use Rattle.dm_marks.specs.Marked.{is_marked}

-- the head of an activity is stale and due where this is held in one of two lists alone, and what is stale newly is due
pub record MarksHead (net : Net) (before now : List Bool) (a : ℕ) (stale stale_after due due_after : List Bool) : Type 0 where
  pub as_many : length stale_after ≡ length stale
  pub as_many_due : length due_after ≡ length due
  pub grows : (e : ℕ) → is_marked stale e ≡ true → is_marked stale_after e ≡ true
  pub head : (is_held now a ≡ is_held before a) ⊎ (is_marked stale_after (activity_at net a).head ≡ true)
  pub all_due : ((e : ℕ) → is_marked stale e ≡ true → is_due due e ≡ true) → (e : ℕ) → is_marked stale_after e ≡ true →
      is_due due_after e ≡ true

-- the same of the first n activities
pub record HasMarkedHeads (net : Net) (before now : List Bool) (n : ℕ) (stale stale_after due due_after : List Bool) : Type 0 where
  pub as_many : length stale_after ≡ length stale
  pub as_many_due : length due_after ≡ length due
  pub heads : (a : ℕ) → a < n → (is_held now a ≡ is_held before a) ⊎ (is_marked stale_after (activity_at net a).head ≡ true)
  pub all_due : ((e : ℕ) → is_marked stale e ≡ true → is_due due e ≡ true) → (e : ℕ) → is_marked stale_after e ≡ true →
      is_due due_after e ≡ true
