-- Stages of rebasing.
use Rattle.std.specs.Prelude.{ℕ, List, All}
use Rattle.dm_network.specs.Net.{Net}
use Rattle.dm_network.specs.Held.{ShowsCycleOf}
use Rattle.dm_rows.specs.declared.messages.Decision.{Decision}
use Rattle.dm_rows.specs.Active.{HasNoCycle, is_active}
use Rattle.dm_rows.specs.Cost.{Costs}
use Rattle.dm_rows.specs.Decide.{with_decisions}
use Rattle.dm_rows.specs.Rows.{RowsValue}
use Rattle.dm_stretch.specs.declared.rebasing.RebaseFault.{RebaseFault}
use Rattle.dm_stretch.specs.declared.rebasing.RebaseFault.TheVariants.{NotFree, Cycle, OutOfMemory}
use Rattle.dm_stretch.specs.Rebasing.{DecidesFree}

-- all decisions decide free choices
abbrev pub AreFree : Net → RowsValue → List Decision → Type 0
AreFree net rows decisions = All (DecidesFree net rows) decisions

-- with the decisions the rows have no cycle and cost c
pub record CostsCarried (net : Net) (rows : RowsValue) (penalty : ℕ) (decisions : List Decision) (c : ℕ) : Type 0 where
  pub no_cycle : HasNoCycle net (with_decisions net rows decisions)
  pub cost : Costs net (with_decisions net rows decisions) penalty c

-- with the decisions the rows have a cycle
abbrev pub RefusesCarried : Net → RowsValue → List Decision → RebaseFault → Type 0
RefusesCarried net rows decisions (NotFree d) = ⊥
RefusesCarried net rows decisions (Cycle ids) = ShowsCycleOf net (is_active net (with_decisions net rows decisions)) ids
RefusesCarried net rows decisions OutOfMemory = Unit {0}
