-- Decisions that are set one after another.
use Rattle.std.specs.Prelude.{ℕ, ◌≡◌, All, List, fold, take}
use Rattle.dm_network.specs.Net.{Net}
use Rattle.dm_rows.specs.declared.messages.Flip.{Flip}
use Rattle.dm_rows.specs.Rows.{RowsValue, IsSized}
use Rattle.dm_rows.specs.Resolve.{after_flip}
use Rattle.dm_rows.specs.Reach.{ReachesFlip}

-- the first n decisions are set, all decisions still reach the rows, and these are as long as before
pub record HasSet (before : RowsValue) (flips : List Flip) (n : ℕ) (now : RowsValue) : Type 0 where
  pub done : now ≡ fold after_flip before (take n flips)
  pub left : All (ReachesFlip now) flips
  pub sizes : (net : Net) → IsSized net before → IsSized net now
