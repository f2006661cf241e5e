-- Which places of a list are listed as moved.
use Rattle.std.specs.Prelude.{ℕ, ◌≡◌, ◌<◌, ◌≤◌, ◌⊎◌, List, length, slice_index, All, Contains}

-- each number after, but for those at places that are listed, is what it was before
pub record ListsMoved (before after : List ℕ) (listed : List ℕ) : Type 0 where
  pub each : (place : ℕ) → place < length after → Contains listed place ⊎ (slice_index before place ≡ slice_index after place)
  pub within : All (λ place. place < length after) listed
  pub few : length listed ≤ length after
  pub as_many : length after ≡ length before
