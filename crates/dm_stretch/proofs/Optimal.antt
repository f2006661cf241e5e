-- Plans of windows are optimal where they say so, and decide no choice twice.
use Rattle.dm_traverse.proofs.Optimal.{optimal_is, bound_is_low, enough_is_optimal, chosen}
use Rattle.std.proofs.Common.{ℕ}
use Rattle.dm_network.specs.Net.{Net}
use Rattle.dm_rows.specs.Rows.{RowsValue}
use Rattle.dm_tree.specs.declared.plans.Plan.{Plan}
use Rattle.dm_parts.specs.declared.parts.PlanByParts.{PlanByParts}
use Rattle.dm_part_bounds.proofs.Low.{bounds_by_parts_hold}
use Rattle.dm_stretch.specs.declared.windows.Window.{Window}
use Rattle.dm_stretch.specs.Minimal.{IsPlanOver}
use Rattle.dm_stretch.specs.Windows.{window_task}
use Rattle.dm_stretch.specs.Laws.{IsWindowPlanOver, IsWindowSolutionOver, WindowPlansAreOptimal, WindowSolutionsAreOptimal, WindowPlansDecideOnce}
use Rattle.dm_stretch.proofs.Beside.{window_is_task}

pub window_plans_are_optimal : WindowPlansAreOptimal
window_plans_are_optimal =
    record {
      optimal = λ net rows penalty window budget plan h marked.
          optimal_is (window_task net rows penalty window budget) (window_is_task net h.network rows window h.sized penalty budget) plan h.is marked;
      bound = λ net rows penalty window budget plan ds c h costs.
          bound_is_low (window_task net rows penalty window budget) (window_is_task net h.network rows window h.sized penalty budget) plan ds c h.is costs;
      enough = λ net rows penalty window budget plan h enough.
          enough_is_optimal (window_task net rows penalty window budget) (window_is_task net h.network rows window h.sized penalty budget) plan h.is enough;
    }

pub window_solutions_are_optimal : WindowSolutionsAreOptimal
window_solutions_are_optimal =
    record {
      optimal = λ net rows penalty window budget plan h marked.
          bounds_by_parts_hold.optimal (window_task net rows penalty window budget) plan (window_is_task net h.network rows window h.sized penalty budget) h.is marked;
      bound = λ net rows penalty window budget plan ds c h costs.
          bounds_by_parts_hold.plan (window_task net rows penalty window budget) plan ds c (window_is_task net h.network rows window h.sized penalty budget) h.is costs;
    }

pub window_plans_decide_once : WindowPlansDecideOnce
window_plans_decide_once =
    record {
      plans = λ net rows penalty window budget plan h.
          (chosen (window_task net rows penalty window budget) (window_is_task net h.network rows window h.sized penalty budget) plan.choices h.is.choices).0.once;
      solutions = λ net rows penalty window budget plan h.
          (chosen (window_task net rows penalty window budget) (window_is_task net h.network rows window h.sized penalty budget) plan.choices h.is.choices).0.once;
    }

-- the choices of a plan of a window are decisions over the rows, and cost what it says
pub window_plan_over : (net : Net) (rows : RowsValue) (penalty : ℕ) (window : Window) (budget : ℕ) (plan : Plan) →
    IsWindowPlanOver net rows penalty window budget plan → IsPlanOver net rows penalty plan.choices plan.cost
window_plan_over net rows penalty window budget plan h =
    record {
      list =
          (chosen (window_task net rows penalty window budget) (window_is_task net h.network rows window h.sized penalty budget) plan.choices h.is.choices).0;
      cost = record { no_cycle = h.is.cost.no_cycle; cost = h.is.cost.cost };
    }

pub window_solution_over : (net : Net) (rows : RowsValue) (penalty : ℕ) (window : Window) (budget : ℕ) (plan : PlanByParts) →
    IsWindowSolutionOver net rows penalty window budget plan → IsPlanOver net rows penalty plan.choices plan.cost
window_solution_over net rows penalty window budget plan h =
    record {
      list =
          (chosen (window_task net rows penalty window budget) (window_is_task net h.network rows window h.sized penalty budget) plan.choices h.is.choices).0;
      cost = record { no_cycle = h.is.cost.no_cycle; cost = h.is.cost.cost };
    }
