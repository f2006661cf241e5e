use Rattle.dm_evaluate.proofs.Relaxing.{relaxed_cost}
use Rattle.dm_evaluate.proofs.laws.costs_as_relaxed.Goals as goal

pub returns : goal.returns
returns c net rows path priced penalty known evaluates = relaxed_cost net rows path priced evaluates known penalty
