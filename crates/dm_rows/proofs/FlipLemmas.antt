-- Setting decisions one after another.
use Rattle.std.proofs.Common.{◌≡◌, ℕ, List, fold, take}
use Rattle.std.specs.Prelude.{All}
use Rattle.dm_rows.specs.declared.messages.Flip.{Flip}
use Rattle.dm_rows.specs.Rows.{RowsValue}
use Rattle.dm_rows.specs.Resolve.{after_flip}
use Rattle.dm_rows.specs.Reach.{ReachesFlip}

-- the decisions set so far, and those that still reach the rows
pub record HasSet (before : RowsValue) (flips : List Flip) (n : ℕ) (now : RowsValue) : Type 0 where
  pub done : now ≡ fold after_flip before (take n flips)
  pub left : All (ReachesFlip now) flips
