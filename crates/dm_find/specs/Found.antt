-- What a plan of either kind costs, and how it is marked.
use Rattle.std.specs.Prelude.{ℕ}
use Rattle.dm_tree.specs.declared.forms.Mark.{Mark}
use Rattle.dm_parts.specs.declared.kinds.AnyPlan.{AnyPlan}
use Rattle.dm_parts.specs.declared.kinds.AnyPlan.TheVariants.{Whole, ByParts}

abbrev pub cost_of : AnyPlan → ℕ
cost_of (Whole plan) = plan.cost
cost_of (ByParts plan) = plan.cost

abbrev pub mark_of : AnyPlan → Mark
mark_of (Whole plan) = plan.mark
mark_of (ByParts plan) = plan.mark
