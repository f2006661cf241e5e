use Rattle.dm_evaluate.proofs.Relaxing.{no_relaxed_cycle}
use Rattle.dm_evaluate.proofs.laws.has_no_relaxed_cycle.Goals as goal

pub returns : goal.returns
returns c net rows path priced evaluates = no_relaxed_cycle net rows path priced evaluates
