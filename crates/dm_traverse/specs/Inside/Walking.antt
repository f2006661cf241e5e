-- Paths of which the one is brought to the other.
use Rattle.std.specs.Prelude.{ℕ, ◌≡◌, ◌≤◌, List, length, take}
use Rattle.dm_network.specs.Net.{Net}
use Rattle.dm_rows.specs.declared.messages.Decision.{Decision}
use Rattle.dm_rows.specs.Rows.{RowsValue}
use Rattle.dm_traverse.specs.Moving.{CannotBeMade}

-- the two begin with the same so many decisions
pub record AreFronts (one other : List Decision) (many : ℕ) : Type 0 where
  pub of_one : many ≤ length one
  pub of_other : many ≤ length other
  pub same : take many one ≡ take many other

-- the decision cannot be made, and the path is as before
pub record IsLeftUnmade (net : Net) (rows : RowsValue) (before after : List Decision) (d : Decision) : Type 0 where
  pub cannot : CannotBeMade net rows before d
  pub same : after ≡ before
