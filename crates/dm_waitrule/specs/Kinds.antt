-- Plans of either kind: when one is true, and what no choices cost less than.
use Rattle.std.specs.Prelude.{ℕ}
use Rattle.dm_tree.specs.Plans.{Task, IsTruePlan}
use Rattle.dm_parts.specs.Parts.{IsTruePlanByParts}
use Rattle.dm_parts.specs.declared.kinds.AnyPlan.{AnyPlan}
use Rattle.dm_parts.specs.declared.kinds.AnyPlan.TheVariants.{Whole, ByParts}

abbrev pub IsTrueAny : Task → AnyPlan → Type 0
IsTrueAny task (Whole plan) = IsTruePlan task plan
IsTrueAny task (ByParts plan) = IsTruePlanByParts task plan

abbrev pub bound_of : AnyPlan → ℕ
bound_of (Whole plan) = plan.bound
bound_of (ByParts plan) = plan.bound
