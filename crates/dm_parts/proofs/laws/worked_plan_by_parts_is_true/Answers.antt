use Rattle.dm_parts.proofs.WorkedParts.{worked_plan_by_parts_is_true}
use Rattle.dm_parts.proofs.laws.worked_plan_by_parts_is_true.Goals as goal

pub returns : goal.returns
returns c = worked_plan_by_parts_is_true
