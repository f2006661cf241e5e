-- What an adoption takes of a plan of either kind.
use Rattle.dm_tree.specs.declared.adopting.Chosen.{Chosen}
use Rattle.dm_tree.specs.Plans.{chosen}
use Rattle.dm_parts.specs.declared.kinds.AnyPlan.{AnyPlan}
use Rattle.dm_parts.specs.declared.kinds.AnyPlan.TheVariants.{Whole, ByParts}

abbrev pub chosen_of : AnyPlan → Chosen
chosen_of (Whole plan) = chosen plan.entry plan.choices
chosen_of (ByParts plan) = chosen plan.entry plan.choices
