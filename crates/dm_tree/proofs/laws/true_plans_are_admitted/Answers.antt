use Rattle.dm_tree.proofs.Admitted.{true_plans_are_admitted}
use Rattle.dm_tree.proofs.laws.true_plans_are_admitted.Goals as goal

pub returns : goal.returns
returns c = true_plans_are_admitted
