-- Marks of events that are brought to their places in the order.
use Rattle.std.specs.Prelude.{ℕ, ◌≡◌, ◌<◌, ◌≤◌, ◌⊎◌, Bool, true, false, List, length, slice_index}
use Rattle.dm_marks.specs.Marked.{is_marked, NoneFrom}
use Rattle.dm_live.specs.Live.{is_fixed}

-- the event is marked and not fixed
pub record IsLoose (marks fixed : List Bool) (e : ℕ) : Type 0 where
  pub marked : is_marked marks e ≡ true
  pub not_fixed : is_fixed fixed e ≡ false

-- the marks at the places of the order are those of the events that are not fixed
pub record ArePlaced (events : ℕ) (ranks : List ℕ) (marks fixed placed : List Bool) : Type 0 where
  pub as_many : length placed ≡ events
  pub each : (e : ℕ) → e < events → IsLoose marks fixed e → is_marked placed (slice_index ranks e) ≡ true
  pub only : (e : ℕ) → e < events → is_marked placed (slice_index ranks e) ≡ true → IsLoose marks fixed e

-- the marks of the events before one are at their places, and those of the others are left
pub record ArePlacedBefore (events : ℕ) (ranks : List ℕ) (marks fixed left placed : List Bool) (from : ℕ) : Type 0 where
  pub as_many : length placed ≡ events
  pub as_many_left : length left ≡ events
  pub each : (e : ℕ) → e < events → IsLoose marks fixed e → (is_marked placed (slice_index ranks e) ≡ true)
      ⊎ ((from ≤ e) × (is_marked left e ≡ true))
  pub only : (e : ℕ) → e < events → is_marked placed (slice_index ranks e) ≡ true → IsLoose marks fixed e
  pub none_before : (e : ℕ) → e < from → is_marked left e ≡ false
  pub others : (e : ℕ) → is_marked left e ≡ true → is_marked marks e ≡ true

-- there is room for a mark of each event, and none is set
pub record IsClear (events : ℕ) (placed : List Bool) : Type 0 where
  pub as_many : length placed ≡ events
  pub none : NoneFrom placed 0
