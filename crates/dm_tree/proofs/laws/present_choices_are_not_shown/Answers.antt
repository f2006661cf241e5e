use Rattle.dm_tree.proofs.WorkedPlan.{present_choices_are_not_shown}
use Rattle.dm_tree.proofs.laws.present_choices_are_not_shown.Goals as goal

pub returns : goal.returns
returns c = present_choices_are_not_shown
