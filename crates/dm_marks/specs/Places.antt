-- Sets of places.
use Rattle.std.specs.Prelude.{ℕ, ◌≡◌, ◌≤◌, Bool, true, List, length, All, Contains}
use Rattle.dm_marks.specs.Marked.{is_marked}

-- which of so many places are in, and those that are, in the order in which they came
pub record PlaceSetValue : Type 0 where
  pub flags : List Bool
  pub places : List ℕ

-- the places that are in are those that are listed, and they are no more than there are places
pub record IsPlaceSet (set : PlaceSetValue) : Type 0 where
  pub each : (place : ℕ) → is_marked set.flags place ≡ true → Contains set.places place
  pub within : All (λ place. is_marked set.flags place ≡ true) set.places
  pub few : length set.places ≤ length set.flags
