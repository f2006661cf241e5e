-- What true parts and true plans by parts show.
use Rattle.std.specs.Prelude.{ℕ, ◌≡◌, ◌+◌, ◌^◌, ◌≤◌, List, length}
use Rattle.dm_rows.specs.declared.messages.Decision.{Decision}
use Rattle.dm_tree.specs.declared.forms.Mark.TheVariants.{Optimal}
use Rattle.dm_tree.specs.declared.plans.Plan.{Plan}
use Rattle.dm_tree.specs.Plans.{Task, IsTruePlan, IsOptimal}
use Rattle.dm_traverse.specs.Laws.{IsTask, CostsWithin}
use Rattle.dm_parts.specs.declared.parts.Part.{Part}
use Rattle.dm_parts.specs.declared.parts.PlanByParts.{PlanByParts}
use Rattle.dm_parts.specs.Parts.{task_within, IsTruePart, IsTruePlanByParts}
use Rattle.dm_part_bounds.specs.OnePart.{in_one_part}

-- The bound of a true part is at most what choices without a cycle cost within its share. No choices without a cycle cost less
-- than the bound of a true plan by parts. The choices of one that is marked Optimal are optimal.
pub record BoundsByPartsHold : Type 0 where
  pub part : (task : Task) (part : Part) (decisions : List Decision) (c : ℕ) → IsTask task → IsTruePart task part →
      CostsWithin (task_within task part.share) decisions c → part.bound ≤ c
  pub plan : (task : Task) (plan : PlanByParts) (decisions : List Decision) (c : ℕ) → IsTask task →
      IsTruePlanByParts task plan → CostsWithin task decisions c → plan.bound ≤ c
  pub optimal : (task : Task) (plan : PlanByParts) → IsTask task → IsTruePlanByParts task plan → plan.mark ≡ Optimal →
      IsOptimal task plan.choices plan.cost

-- A true plan is a true plan by one part of all terms, with the same choices, cost and bound. So a budget that makes a plan
-- Optimal makes a plan by parts Optimal, where k choices allowed want 2^(k+1) - 1 nodes.
pub record OnePartWillDo : Type 0 where
  pub plan : (task : Task) (plan : Plan) → IsTask task → IsTruePlan task plan → IsTruePlanByParts task (in_one_part task.net plan)
  pub marked : (task : Task) (plan : Plan) → IsTask task → IsTruePlan task plan → plan.mark ≡ Optimal →
      (in_one_part task.net plan).mark ≡ Optimal
  pub enough : (task : Task) (plan : Plan) → IsTask task → IsTruePlan task plan →
      2 ^ (length task.allowed + 1) ≤ task.budget + 1 → (in_one_part task.net plan).mark ≡ Optimal
