use Rattle.dm_tree.proofs.WorkedPlan.{worked_plan_is_true}
use Rattle.dm_tree.proofs.laws.worked_plan_is_true.Goals as goal

pub returns : goal.returns
returns c = worked_plan_is_true
