-- Which choices of a plan are kept where those that are worth little are given back.
use Rattle.std.specs.Prelude.{ℕ, zero, suc, ◌≡◌, ◌+◌, ◌<◌, ◌≤◌, List, Some, All, Contains, length, map, slice_get}
use Rattle.std.specs.List.{remove}
use Rattle.dm_network.specs.Net.{Net}
use Rattle.dm_rows.specs.declared.messages.Decision.{Decision}
use Rattle.dm_rows.specs.Active.{HasNoCycle}
use Rattle.dm_rows.specs.Cost.{Costs}
use Rattle.dm_rows.specs.Decide.{IsChoiceList, choice_of, with_decisions}
use Rattle.dm_rows.specs.Rows.{RowsValue}
use Rattle.dm_tree.specs.Plans.{AreSomeOf}
use Rattle.dm_stretch.specs.declared.thinning.KeptChoice.{KeptChoice}
use Rattle.dm_stretch.specs.declared.thinning.Minimal.{Minimal}
use Rattle.dm_stretch.specs.declared.thinning.Worth.{Worth}
use Rattle.dm_stretch.specs.declared.thinning.Worth.TheVariants.{Needed, Saves}

-- with these decisions set the rows have no cycle, and cost c
pub record CostsSet (net : Net) (rows : RowsValue) (penalty : ℕ) (decisions : List Decision) (c : ℕ) : Type 0 where
  pub no_cycle : HasNoCycle net (with_decisions net rows decisions)
  pub cost : Costs net (with_decisions net rows decisions) penalty c

-- the decisions of choices of the rows, and what these cost with them
pub record IsPlanOver (net : Net) (rows : RowsValue) (penalty : ℕ) (planned : List Decision) (spent : ℕ) : Type 0 where
  pub list : IsChoiceList net rows planned
  pub cost : CostsSet net rows penalty planned spent

-- What a decision of a list that costs c is worth, where the others are these: they make a cycle, or cost so much more than the list
-- does, and more than a limit.
abbrev pub IsWorth : Net → RowsValue → ℕ → ℕ → ℕ → List Decision → Worth → Type 0
IsWorth net rows penalty c limit others Needed = HasNoCycle net (with_decisions net rows others) → ⊥
IsWorth net rows penalty c limit others (Saves more) = CostsSet net rows penalty others (c + more) × (limit < c + more)

abbrev pub kept_of : Minimal → List Decision
kept_of minimal = map (λ (kept : KeptChoice). kept.decision) minimal.choices

-- The decision at a place is given back: the others have no cycle, and cost at most a limit; and of those that can be left out, it
-- is one whose loss costs least.
pub record GivesOneBack (net : Net) (rows : RowsValue) (penalty limit : ℕ) (before after : List Decision) : Type 0 where
  pub place : ℕ
  pub within : place < length before
  pub others : after ≡ remove before place
  pub cost : ℕ
  pub costs : CostsSet net rows penalty after cost
  pub near : cost ≤ limit
  pub cheapest : (other c : ℕ) → other < length before → CostsSet net rows penalty (remove before other) c → cost ≤ c

-- so many decisions are given back, one after another
abbrev pub GivesBack : Net → RowsValue → ℕ → ℕ → ℕ → List Decision → List Decision → Type 0
GivesBack net rows penalty limit zero before after = after ≡ before
GivesBack net rows penalty limit (suc many) before after =
    (middle : List Decision) × GivesBack net rows penalty limit many before middle × GivesOneBack net rows penalty limit middle after

-- Kept are some of the plan's choices, in its order: those that are left where one after another is given back whose loss costs
-- least. With them the rows have no cycle, and cost what is told, at most so much more than the plan. To leave out any one of them
-- makes a cycle, or costs more than that.
pub record IsMinimal (net : Net) (rows : RowsValue) (penalty : ℕ) (planned : List Decision) (spent most : ℕ)
    (minimal : Minimal) : Type 0 where
  pub among : All (Contains planned) (kept_of minimal)
  pub in_order : AreSomeOf (map choice_of planned) (map choice_of (kept_of minimal))
  pub cost : CostsSet net rows penalty (kept_of minimal) minimal.cost
  pub near : minimal.cost ≤ spent + most
  pub worth : (place : ℕ) (kept : KeptChoice) → slice_get minimal.choices place ≡ Some kept →
      IsWorth net rows penalty minimal.cost (spent + most) (remove (kept_of minimal) place) kept.worth
  pub many : ℕ
  pub given_back : GivesBack net rows penalty (spent + most) many planned (kept_of minimal)
