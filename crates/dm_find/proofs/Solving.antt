-- What is made of a plan is for the same rows.
use Rattle.std.proofs.Common.{◌≡◌, ℕ, ◌+◌, ◌^◌, ◌≤◌, length, Result, Ok, Err, subst, ◌∙◌, arith}
use Rattle.std.specs.Prelude.{IfOk}
use Rattle.std.specs.declared.alloc.AllocError.{AllocError}
use Rattle.dm_network.specs.Net.{Net}
use Rattle.dm_network.specs.Start.{IsNetwork}
use Rattle.dm_rows.specs.Cost.{Costs}
use Rattle.dm_rows.specs.Decide.{free_choices_of}
use Rattle.dm_rows.specs.Rows.{RowsValue, IsSized}
use Rattle.dm_rows.specs.declared.rows.Snapshot.{Snapshot}
use Rattle.dm_tree.specs.declared.forms.Mark.TheVariants.{Optimal}
use Rattle.dm_tree.specs.declared.plans.Plan.{Plan}
use Rattle.dm_tree.specs.Plans.{Task, whole_task, IsTruePlan}
use Rattle.dm_traverse.proofs.Optimal.{whole_is_task, optimal_plans_are_optimal}
use Rattle.dm_parts.specs.declared.parts.PlanByParts.{PlanByParts}
use Rattle.dm_parts.specs.Parts.{IsTruePlanByParts}
use Rattle.dm_parts.specs.Sizes.{ids_of, most_ids}
use Rattle.dm_desk.specs.Planning.{SolvesFor}

pub solves : (net : Net) (penalty : ℕ) (snapshot : Snapshot) (budget entry : ℕ) (task : Task) (given : Result PlanByParts AllocError) → task ≡ whole_task net snapshot.rows penalty budget →
    entry ≡ snapshot.entry → IfOk given (IsTruePlanByParts task) → IfOk given (λ found. found.entry ≡ entry) → IfOk given (λ found. ids_of found.parts ≤ most_ids) →
    IfOk given (SolvesFor net penalty snapshot budget)
solves net penalty snapshot budget entry task (Ok found) same at is entry_is few = record {
  entry = entry_is ∙ at;
  is_true = subst (λ (t : Task). IsTruePlanByParts t found) same is;
  few_ids = few;
}
solves net penalty snapshot budget entry task (Err e) same at is entry_is few = tt

-- what costs no more than a plan costs no more than the rows
pub no_dearer : (net : Net) (rows : RowsValue) (penalty cost : ℕ) (given : Result PlanByParts AllocError) → IfOk given (λ found. found.cost ≤ cost) →
    ((own : ℕ) → Costs net rows penalty own → cost ≤ own) → IfOk given (λ found. (own : ℕ) → Costs net rows penalty own → found.cost ≤ own)
no_dearer net rows penalty cost (Ok found) low own_low = λ own costs. let below = own_low own costs in omega arith
no_dearer net rows penalty cost (Err e) low own_low = tt

-- a true plan with nodes for all free choices is optimal
pub enough_nodes : (net : Net) (rows : RowsValue) (penalty budget : ℕ) (plan : Plan) → IsNetwork net → IsSized net rows → IsTruePlan (whole_task net rows penalty budget) plan →
    2 ^ (length (free_choices_of net rows) + 1) ≤ budget + 1 → plan.mark ≡ Optimal
enough_nodes net rows penalty budget plan network sized is nodes =
    optimal_plans_are_optimal.enough (whole_task net rows penalty budget) plan (whole_is_task net rows penalty budget network sized) is nodes
