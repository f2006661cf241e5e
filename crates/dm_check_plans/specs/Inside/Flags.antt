-- Flags that answer a test of places.
use Rattle.std.specs.Prelude.{ℕ, ◌≡◌, ◌<◌, Bool, List, length, if◌then◌else◌}
use Rattle.dm_paths.specs.Flags.{is_flagged}

-- the test with these places set to a value
abbrev pub set_where : (ℕ → Bool) → Bool → (ℕ → Bool) → ℕ → Bool
set_where some value flags b = if some b then value else flags b

-- the flags of some of the first n places are set, and all others stay
pub record AreSetWhere (some : ℕ → Bool) (value : Bool) (n : ℕ) (before after : List Bool) : Type 0 where
  pub size : length after ≡ length before
  pub each : (b : ℕ) → b < n → is_flagged after b ≡ set_where some value (is_flagged before) b
