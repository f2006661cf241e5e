-- What a plan by parts says of its parts together.
use Rattle.std.specs.Prelude.{ℕ, ◌≡◌, ◌+◌, ◌^◌, ◌≤◌, ◌↔◌, List, [], sum_by, All, Option, Some, None}
use Rattle.dm_tree.specs.declared.forms.Mark.TheVariants.{Optimal}
use Rattle.dm_tree.specs.Plans.{Task, CostsRelaxed}
use Rattle.dm_parts.specs.declared.parts.Part.{Part}
use Rattle.dm_parts.specs.declared.parts.PlanByParts.{PlanByParts}
use Rattle.dm_parts.specs.Parts.{task_beside, IsTruePart, shares_of}
use Rattle.dm_parts.specs.Shares.{AreApart}
use Rattle.dm_parts.specs.Sizes.{nodes_of}

-- the sum of the parts' bounds
abbrev pub bounds_of : List Part → ℕ
bounds_of parts = sum_by (λ part. part.bound) parts

-- a sum, or None where it is too large for a cost
abbrev pub IsSum : ℕ → Option ℕ → Type 0
IsSum total (Some sum) = sum ≡ total
IsSum total None = 2 ^ 128 ≤ total

-- the bound is the sum, the mark is right, and the budget is kept to
pub record HasSums (budget : ℕ) (plan : PlanByParts) : Type 0 where
  pub bound : plan.bound ≡ bounds_of plan.parts + plan.rest
  pub mark : (plan.mark ≡ Optimal) ↔ (plan.bound ≡ plan.cost)
  pub size : nodes_of plan.parts ≤ budget

-- the parts are true and apart, and the rest is right
pub record AreTrueTogether (task : Task) (all : List Part) (left : ℕ) : Type 0 where
  pub parts : All (IsTruePart task) all
  pub apart : AreApart (shares_of all)
  pub rest : CostsRelaxed (task_beside task (shares_of all)) [] left
