-- What a set keeps of itself.
use Rattle.std.specs.Prelude.{ℕ, ◌≡◌, Bool, true, List, length, All, Contains, count_by}
use Rattle.dm_marks.specs.Marked.{is_marked}

-- the places that are in are listed, and each of them once
pub record IsListed (flags : List Bool) (places : List ℕ) : Type 0 where
  pub each : (place : ℕ) → is_marked flags place ≡ true → Contains places place
  pub within : All (λ place. is_marked flags place ≡ true) places
  pub as_many : length places ≡ count_by (λ flag. flag) flags
