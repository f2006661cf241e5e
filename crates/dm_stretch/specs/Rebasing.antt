-- Plans that are carried over to newer rows, and why one is not.
use Rattle.std.specs.Prelude.{ℕ, ◌≡◌, ◌<◌, List, Some, slice_get, All, Contains}
use Rattle.dm_base.specs.declared.ids.ActId.{ActId}
use Rattle.dm_network.specs.Net.{Net}
use Rattle.dm_network.specs.Held.{ShowsCycleOf}
use Rattle.dm_rows.specs.declared.messages.Decision.{Decision}
use Rattle.dm_rows.specs.declared.rows.Snapshot.{Snapshot}
use Rattle.dm_rows.specs.Active.{HasNoCycle, is_active}
use Rattle.dm_rows.specs.Cost.{Costs}
use Rattle.dm_rows.specs.Decide.{free_choices_of, choice_of, with_decisions}
use Rattle.dm_rows.specs.Rows.{RowsValue}
use Rattle.dm_relax.specs.Complete.{differences_from}
use Rattle.dm_stretch.specs.declared.rebasing.Rebased.{Rebased}
use Rattle.dm_stretch.specs.declared.rebasing.RebaseFault.{RebaseFault}
use Rattle.dm_stretch.specs.declared.rebasing.RebaseFault.TheVariants.{NotFree, Cycle, OutOfMemory}

-- no two of the decisions decide one choice
abbrev pub DecideOnce : List Decision → Type 0
DecideOnce decisions =
    (m n : ℕ) (d e : Decision) → slice_get decisions m ≡ Some d → slice_get decisions n ≡ Some e → choice_of d ≡ choice_of e → m ≡ n

-- the decision decides a free choice of the rows
abbrev pub DecidesFree : Net → RowsValue → Decision → Type 0
DecidesFree net rows d = Contains (free_choices_of net rows) (choice_of d)

-- the rows with those of the decisions that differ from them
abbrev pub carried : Net → RowsValue → List Decision → RowsValue
carried net rows decisions = with_decisions net rows (differences_from net rows decisions)

-- Every choice is free in the newer rows. Kept are those that differ from them, in their order; with these the rows have no
-- cycle, and cost what is told.
pub record IsRebased (net : Net) (newer : Snapshot) (penalty : ℕ) (choices : List Decision) (rebased : Rebased) : Type 0 where
  pub entry : rebased.entry ≡ newer.entry
  pub free : All (DecidesFree net newer.rows) choices
  pub differ : rebased.choices ≡ differences_from net newer.rows choices
  pub no_cycle : HasNoCycle net (carried net newer.rows choices)
  pub cost : Costs net (carried net newer.rows choices) penalty rebased.cost

-- the decision stands among the others, does not decide a free choice, and all before it do
pub record IsFirstNotFree (net : Net) (rows : RowsValue) (choices : List Decision) (d : Decision) : Type 0 where
  pub place : ℕ
  pub stands : slice_get choices place ≡ Some d
  pub not_free : DecidesFree net rows d → ⊥
  pub before : (k : ℕ) (e : Decision) → k < place → slice_get choices k ≡ Some e → DecidesFree net rows e

-- all choices are free, and with those that differ the rows have this cycle
pub record IsCarriedCycle (net : Net) (rows : RowsValue) (choices : List Decision) (ids : List ActId) : Type 0 where
  pub free : All (DecidesFree net rows) choices
  pub shows : ShowsCycleOf net (is_active net (carried net rows choices)) ids

-- want of memory may come at any time
abbrev pub RefusesRebase : Net → RowsValue → List Decision → RebaseFault → Type 0
RefusesRebase net rows choices (NotFree d) = IsFirstNotFree net rows choices d
RefusesRebase net rows choices (Cycle ids) = IsCarriedCycle net rows choices ids
RefusesRebase net rows choices OutOfMemory = Unit {0}
