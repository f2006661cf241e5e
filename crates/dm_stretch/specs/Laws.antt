-- What holds of all plans of windows.
use Rattle.std.specs.Prelude.{ℕ, ◌≡◌, ◌+◌, ◌^◌, ◌≤◌, true, List, length}
use Rattle.dm_network.specs.Net.{Net}
use Rattle.dm_network.specs.Start.{IsNetwork}
use Rattle.dm_rows.specs.declared.messages.Choice.{Choice}
use Rattle.dm_rows.specs.declared.messages.Decision.{Decision}
use Rattle.dm_rows.specs.Rows.{RowsValue, IsSized}
use Rattle.dm_tree.specs.declared.forms.Mark.TheVariants.{Optimal}
use Rattle.dm_tree.specs.declared.plans.Plan.{Plan}
use Rattle.dm_tree.specs.Plans.{IsOptimal}
use Rattle.dm_traverse.specs.Laws.{CostsWithin}
use Rattle.dm_stretch.specs.declared.windows.Window.{Window}
use Rattle.dm_parts.specs.declared.parts.PlanByParts.{PlanByParts}
use Rattle.dm_stretch.specs.Windows.{is_held, choices_in, window_task, IsTrueWindowPlan, IsTrueWindowSolution}
use Rattle.dm_stretch.specs.Rebasing.{DecideOnce}

-- a true plan of a window over the rows of a network
pub record IsWindowPlanOver (net : Net) (rows : RowsValue) (penalty : ℕ) (window : Window) (budget : ℕ) (plan : Plan) : Type 0 where
  pub network : IsNetwork net
  pub sized : IsSized net rows
  pub is : IsTrueWindowPlan net rows penalty window budget plan

-- Where a true plan of a window is marked Optimal, no list of decisions of choices in the window, set on the rows without a
-- cycle, costs less, and its bound is its cost. No such list costs less than the bound of a true plan of the window. With k
-- choices in the window a budget of 2^(k+1) - 1 nodes makes it Optimal.
pub record WindowPlansAreOptimal : Type 0 where
  pub optimal : (net : Net) (rows : RowsValue) (penalty : ℕ) (window : Window) (budget : ℕ) (plan : Plan) →
      IsWindowPlanOver net rows penalty window budget plan → plan.mark ≡ Optimal →
      IsOptimal (window_task net rows penalty window budget) plan.choices plan.cost × (plan.bound ≡ plan.cost)
  pub bound : (net : Net) (rows : RowsValue) (penalty : ℕ) (window : Window) (budget : ℕ) (plan : Plan)
      (decisions : List Decision) (c : ℕ) →
      IsWindowPlanOver net rows penalty window budget plan →
      CostsWithin (window_task net rows penalty window budget) decisions c → plan.bound ≤ c
  pub enough : (net : Net) (rows : RowsValue) (penalty : ℕ) (window : Window) (budget : ℕ) (plan : Plan) →
      IsWindowPlanOver net rows penalty window budget plan →
      2 ^ (length (choices_in net rows window) + 1) ≤ budget + 1 →
      plan.mark ≡ Optimal

-- a true plan by parts of a window over the rows of a network
pub record IsWindowSolutionOver (net : Net) (rows : RowsValue) (penalty : ℕ) (window : Window) (budget : ℕ) (plan : PlanByParts) : Type 0 where
  pub network : IsNetwork net
  pub sized : IsSized net rows
  pub is : IsTrueWindowSolution net rows penalty window budget plan

-- No list of decisions of choices in the window costs less than the bound of a true plan by parts of the window. Where one is marked
-- Optimal, none costs less than it.
pub record WindowSolutionsAreOptimal : Type 0 where
  pub optimal : (net : Net) (rows : RowsValue) (penalty : ℕ) (window : Window) (budget : ℕ) (plan : PlanByParts) →
      IsWindowSolutionOver net rows penalty window budget plan → plan.mark ≡ Optimal →
      IsOptimal (window_task net rows penalty window budget) plan.choices plan.cost
  pub bound : (net : Net) (rows : RowsValue) (penalty : ℕ) (window : Window) (budget : ℕ) (plan : PlanByParts)
      (decisions : List Decision) (c : ℕ) →
      IsWindowSolutionOver net rows penalty window budget plan →
      CostsWithin (window_task net rows penalty window budget) decisions c → plan.bound ≤ c

-- the windows are of one stretch of time, and what is held in the one is held in the other
pub record HoldsMore (one other : Window) : Type 0 where
  pub from : other.from ≡ one.from
  pub to : other.to ≡ one.to
  pub held : (choice : Choice) → is_held one.held choice ≡ true → is_held other.held choice ≡ true

-- Where a true plan of a window is marked Optimal, no true plan of the same stretch in which more is held costs less.
abbrev pub HoldingMoreCostsNoLess : Type 0
HoldingMoreCostsNoLess =
    (net : Net) (rows : RowsValue) (penalty : ℕ) (window tighter : Window) (budget other : ℕ) (plan one : Plan) →
    IsWindowPlanOver net rows penalty window budget plan → plan.mark ≡ Optimal →
    IsWindowPlanOver net rows penalty tighter other one → HoldsMore window tighter → plan.cost ≤ one.cost

-- a true plan of a window, of either kind, decides no choice twice
pub record WindowPlansDecideOnce : Type 0 where
  pub plans : (net : Net) (rows : RowsValue) (penalty : ℕ) (window : Window) (budget : ℕ) (plan : Plan) →
      IsWindowPlanOver net rows penalty window budget plan → DecideOnce plan.choices
  pub solutions : (net : Net) (rows : RowsValue) (penalty : ℕ) (window : Window) (budget : ℕ) (plan : PlanByParts) →
      IsWindowSolutionOver net rows penalty window budget plan → DecideOnce plan.choices
