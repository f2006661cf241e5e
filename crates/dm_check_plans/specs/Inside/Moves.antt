-- What a decision holds and charges for.
use Rattle.std.specs.Prelude.{ℕ, ◌≡◌, ◌⊎◌, Bool, List, length, Some}
use Rattle.dm_network.specs.Net.{Net, activity_at}
use Rattle.dm_paths.specs.Flags.{is_flagged}
use Rattle.dm_paths.specs.RowsRead.{IsAmong}

-- of the first n activities of a row the headways of the pair are flagged so; all other flags stay
pub record HasTurned (net : Net) (p : ℕ) (row : List ℕ) (n : ℕ) (value : Bool) (before after : List Bool) : Type 0 where
  pub size : length after ≡ length before
  pub same : (b : ℕ) → (is_flagged after b ≡ is_flagged before b) ⊎ (IsAmong row n b × ((activity_at net b).pair ≡ Some p))
  pub done : (b : ℕ) → IsAmong row n b → (activity_at net b).pair ≡ Some p → is_flagged after b ≡ value
