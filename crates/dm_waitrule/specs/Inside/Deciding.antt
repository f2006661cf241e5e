-- A change that is tried.
use Rattle.std.specs.Prelude.{ℕ, ◌≡◌, ◌⊎◌}
use Rattle.dm_network.specs.Net.{Net}
use Rattle.dm_rows.specs.Active.{HasNoCycle}
use Rattle.dm_rows.specs.Rows.{RowsValue}
use Rattle.dm_waitrule.specs.Rules.{with_kept}

-- the change is kept where the rows with it kept have no cycle, and the rows are as before elsewhere
abbrev pub KeepsWhereOpen : Net → RowsValue → ℕ → RowsValue → Type 0
KeepsWhereOpen net rows a next =
    (HasNoCycle net (with_kept rows a) × (next ≡ with_kept rows a)) ⊎ ((HasNoCycle net (with_kept rows a) → ⊥) × (next ≡ rows))
