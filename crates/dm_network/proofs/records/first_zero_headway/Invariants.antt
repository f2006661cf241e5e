use Rattle.std.proofs.Common.{◌≡◌, ◌<◌, ℕ, Some, slice_get}
use Rattle.dm_base.specs.declared.rows.ActRow.{ActRow}
use Rattle.dm_network.specs.Build.{IsZeroHeadway}
use Rattle.dm_network.proofs.records.first_zero_headway.Given as goal

abbrev pub invariant-loop-row : goal.invariant-loop-row
invariant-loop-row l = (k : ℕ) (row : ActRow) → k < l.row-index → slice_get l.rows k ≡ Some row → IsZeroHeadway row → ⊥
