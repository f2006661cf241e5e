-- What a planner is asked, and what it gives.
use Rattle.std.specs.Prelude.{ℕ, ◌≡◌, ◌≤◌, Result, IfOk}
use Rattle.std.specs.Borrow.{Bor}
use Rattle.std.specs.declared.alloc.AllocError.{AllocError}
use Rattle.dm_base.specs.declared.limits.TheConstants.{BUDGET}
use Rattle.dm_network.specs.Net.{Net}
use Rattle.dm_rows.specs.Active.{HasNoCycle}
use Rattle.dm_rows.specs.Rows.{IsSized}
use Rattle.dm_rows.specs.declared.rows.Snapshot.{Snapshot}
use Rattle.dm_tree.specs.declared.plans.Plan.{Plan}
use Rattle.dm_tree.specs.Plans.{whole_task, IsTruePlan}
use Rattle.dm_parts.specs.declared.parts.PlanByParts.{PlanByParts}
use Rattle.dm_parts.specs.declared.kinds.AnyPlan.{AnyPlan}
use Rattle.dm_parts.specs.declared.kinds.AnyPlan.TheVariants.{Whole, ByParts}
use Rattle.dm_parts.specs.Parts.{IsTruePlanByParts}
use Rattle.dm_cert.specs.Answers.{Setting}
use Rattle.dm_parts.specs.Sizes.{ids_of, most_ids}
use Rattle.dm_desk.specs.declared.searches.Search.{Search}
use Rattle.dm_desk.specs.declared.searches.Search.TheVariants.{Plan as ForPlan, Solve as ForParts}

-- of how many nodes at most
abbrev pub budget_of : Search → ℕ
budget_of (ForPlan budget) = budget
budget_of (ForParts budget) = budget

-- a true plan of the rows that were copied, of so many nodes at most
pub record PlansFor (net : Net) (penalty : ℕ) (snapshot : Snapshot) (budget : ℕ) (plan : Plan) : Type 0 where
  pub entry : plan.entry ≡ snapshot.entry
  pub is_true : IsTruePlan (whole_task net snapshot.rows penalty budget) plan

-- a true plan by parts of these rows, of so many nodes at most, whose text has room for its ids
pub record SolvesFor (net : Net) (penalty : ℕ) (snapshot : Snapshot) (budget : ℕ) (plan : PlanByParts) : Type 0 where
  pub entry : plan.entry ≡ snapshot.entry
  pub is_true : IsTruePlanByParts (whole_task net snapshot.rows penalty budget) plan
  pub few_ids : ids_of plan.parts ≤ most_ids

-- a plan of the kind that was asked for
abbrev pub FindsFor : Net → ℕ → Snapshot → Search → AnyPlan → Type 0
FindsFor net penalty snapshot (ForPlan budget) (Whole plan) = PlansFor net penalty snapshot budget plan
FindsFor net penalty snapshot (ForPlan budget) (ByParts plan) = ⊥
FindsFor net penalty snapshot (ForParts budget) (Whole plan) = ⊥
FindsFor net penalty snapshot (ForParts budget) (ByParts plan) = SolvesFor net penalty snapshot budget plan

-- A planner may be asked for a plan of either kind of rows without a cycle and of so many nodes, and gives one for what answers go
-- by, in texts of version 2.
pub record PlansUnder (pre : Bor Snapshot → Search → Type 0) (post : Bor Snapshot → Search → Result AnyPlan AllocError → Type 0)
    (setting : Setting) : Type 0 where
  pub may_ask : (snapshot : Bor Snapshot) (search : Search) → IsSized setting.net snapshot.now.rows → HasNoCycle setting.net snapshot.now.rows
      → 1 ≤ budget_of search → budget_of search ≤ BUDGET → pre snapshot search
  pub gives : (snapshot : Bor Snapshot) (search : Search) (given : Result AnyPlan AllocError) → post snapshot search given
      → IfOk given (FindsFor setting.net setting.penalty snapshot.now search)
  pub version : setting.version ≡ 2
