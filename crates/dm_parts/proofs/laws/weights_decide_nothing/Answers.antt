use Rattle.dm_parts.proofs.Alike.{weights_decide_nothing}
use Rattle.dm_parts.proofs.laws.weights_decide_nothing.Goals as goal

pub returns : goal.returns
returns c = weights_decide_nothing
