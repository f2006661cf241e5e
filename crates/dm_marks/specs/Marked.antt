-- Marks at places.
use Rattle.std.specs.Prelude.{ℕ, ◌≡◌, ◌<◌, ◌≤◌, Bool, true, false, List, length, slice_index_or}

abbrev pub is_marked : List Bool → ℕ → Bool
is_marked marks place = slice_index_or marks place false

-- some of the first so many places is marked
pub record HasMark (marks : List Bool) (places : ℕ) : Type 0 where
  pub place : ℕ
  pub below : place < places
  pub marked : is_marked marks place ≡ true

-- a place is the first that is marked from another one on
pub record IsFirstFrom (marks : List Bool) (from place : ℕ) : Type 0 where
  pub not_before : from ≤ place
  pub within : place < length marks
  pub marked : is_marked marks place ≡ true
  pub none_between : (k : ℕ) → from ≤ k → k < place → is_marked marks k ≡ false

-- no place is marked from one on
abbrev pub NoneFrom : List Bool → ℕ → Type 0
NoneFrom marks from = (k : ℕ) → from ≤ k → is_marked marks k ≡ false
