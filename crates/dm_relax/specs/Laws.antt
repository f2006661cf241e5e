-- How a relaxed problem stands to the choices that hold its path's decisions.
use Rattle.std.specs.Prelude.{ℕ, ◌≡◌, ◌≤◌, IsTrue, List, map, All, Contains}
use Rattle.dm_network.specs.Net.{Net}
use Rattle.dm_network.specs.Start.{IsNetwork}
use Rattle.dm_rows.specs.declared.messages.Decision.{Decision}
use Rattle.dm_rows.specs.declared.messages.Choice.{Choice}
use Rattle.dm_rows.specs.Rows.{RowsValue, IsSized}
use Rattle.dm_rows.specs.Active.{HasNoCycle}
use Rattle.dm_rows.specs.Timetable.{IsLeast}
use Rattle.dm_rows.specs.Cost.{Costs, cost_of}
use Rattle.dm_rows.specs.Decide.{IsChoiceList, free_choices_of, choice_of, with_decisions}
use Rattle.dm_tree.specs.Relaxed.{IsRelaxedLeast, relaxed_cost_of, RelaxedCosts, HasNoRelaxedCycle, IsViolated}
use Rattle.dm_tree.specs.Plans.{AreSomeOf}
use Rattle.dm_relax.specs.Complete.{completion_of, differences_from}
use Rattle.dm_paths.specs.Decisions.{differs_from}

-- a network, its rows, a path of decisions of free choices, and a choice list that holds them
pub record Holds (net : Net) (rows : RowsValue) (path choices : List Decision) : Type 0 where
  pub network : IsNetwork net
  pub sized : IsSized net rows
  pub is_path : IsChoiceList net rows path
  pub are_choices : IsChoiceList net rows choices
  pub holds : All (Contains choices) path

-- nothing is violated in the relaxed problem of a path, of which these are the least times
pub record ViolatesNothing (net : Net) (rows : RowsValue) (path : List Decision) (x : List ℕ) : Type 0 where
  pub least : IsRelaxedLeast net rows path x
  pub none : (choice : Choice) → IsViolated net rows path x choice → ⊥

-- the decisions decide every free choice, in order, and with them the rows have no cycle, these least times and this cost
pub record Completes (net : Net) (rows : RowsValue) (path decisions : List Decision) (x : List ℕ) : Type 0 where
  pub decides : map choice_of decisions ≡ free_choices_of net rows
  pub holds : All (Contains decisions) path
  pub no_cycle : HasNoCycle net (with_decisions net rows decisions)
  pub least : IsLeast net (with_decisions net rows decisions) x
  pub cost : (penalty : ℕ) → cost_of net (with_decisions net rows decisions) x penalty ≡ relaxed_cost_of net rows path x penalty

-- The relaxed cost of a path is at most what the rows cost with any choices that hold its decisions, whether or not they
-- decide everything; where these have no cycle, the relaxed problem has none. Where nothing is violated the completion has
-- the relaxed times and the relaxed cost.
pub record RelaxedCostIsABound : Type 0 where
  pub bound : (net : Net) (rows : RowsValue) (path choices : List Decision) (penalty relaxed cost : ℕ) →
      Holds net rows path choices → RelaxedCosts net rows path penalty relaxed →
      Costs net (with_decisions net rows choices) penalty cost → relaxed ≤ cost
  pub no_cycle : (net : Net) (rows : RowsValue) (path choices : List Decision) → Holds net rows path choices →
      HasNoCycle net (with_decisions net rows choices) → HasNoRelaxedCycle net rows path
  pub completion : (net : Net) (rows : RowsValue) (path : List Decision) (x : List ℕ) → IsNetwork net → IsSized net rows →
      IsChoiceList net rows path → ViolatesNothing net rows path x →
      Completes net rows path (completion_of net rows path x) x

-- decisions that decide some free choices, in order and none twice, each otherwise than the rows have it, and with which the
-- rows have no cycle, these least times and the relaxed cost of the path
pub record CompletesByDifferences (net : Net) (rows : RowsValue) (path decisions : List Decision) (x : List ℕ) : Type 0 where
  pub in_order : AreSomeOf (free_choices_of net rows) (map choice_of decisions)
  pub differ : All (λ d. IsTrue (differs_from net rows d)) decisions
  pub no_cycle : HasNoCycle net (with_decisions net rows decisions)
  pub least : IsLeast net (with_decisions net rows decisions) x
  pub cost : (penalty : ℕ) → cost_of net (with_decisions net rows decisions) x penalty ≡ relaxed_cost_of net rows path x penalty

-- Where nothing is violated, what differs from the rows in the completion completes the path as well.
abbrev pub DifferencesComplete : Type 0
DifferencesComplete =
    (net : Net) (rows : RowsValue) (path : List Decision) (x : List ℕ) → IsNetwork net → IsSized net rows →
    IsChoiceList net rows path → ViolatesNothing net rows path x →
    CompletesByDifferences net rows path (differences_from net rows (completion_of net rows path x)) x
