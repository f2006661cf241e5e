-- Weights that are made right one place after the other.
use Rattle.std.specs.Prelude.{ℕ, ◌≡◌, ◌<◌, ◌≤◌, ◌⊎◌, Bool, List, length, slice_index}
use Rattle.dm_network.specs.Net.{Net}
use Rattle.dm_rows.specs.Rows.{RowsValue}
use Rattle.dm_rows.specs.declared.messages.Flip.{Flip}
use Rattle.dm_rows.specs.declared.messages.Flip.TheVariants.{Keep, Drop, First}
use Rattle.dm_check_times.specs.KeptCosts.{KeptCostValue, IsPricedAt, KeepsLate}

-- the weights at these places are right now, and whichever was right still is
pub record Reprices (net : Net) (rows : RowsValue) (charges : ℕ → Bool) (places : ℕ → Type 0) (old new : KeptCostValue) : Type 0 where
  pub times : new.times ≡ old.times
  pub late : KeepsLate old new
  pub there : (a : ℕ) → places a → IsPricedAt net rows charges new a
  pub kept : (a : ℕ) → IsPricedAt net rows charges old a → IsPricedAt net rows charges new a

-- the activity is the change that is kept or dropped
abbrev pub IsFlipped : Flip → ℕ → Type 0
IsFlipped (Keep a) b = b ≡ a
IsFlipped (Drop a) b = b ≡ a
IsFlipped (First p small) b = ⊥

-- the place is listed from the n-th one on
pub record IsLeft (listed : List ℕ) (n place : ℕ) : Type 0 where
  pub at : ℕ
  pub not_before : n ≤ at
  pub within : at < length listed
  pub is : slice_index listed at ≡ place

-- each time is that of the other list, but at the places that are listed from the n-th one on
pub record HasFollowed (times listed : List ℕ) (n : ℕ) (kept : List ℕ) : Type 0 where
  pub as_many : length kept ≡ length times
  pub each : (place : ℕ) → place < length times → IsLeft listed n place ⊎ (slice_index kept place ≡ slice_index times place)
