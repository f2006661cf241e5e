use Rattle.dm_relax.proofs.BoundLaw.{relaxed_cost_is_a_bound}
use Rattle.dm_relax.proofs.laws.relaxed_cost_is_a_bound.Goals as goal

pub returns : goal.returns
returns c = relaxed_cost_is_a_bound
