use Rattle.dm_evaluate.proofs.Relaxing.{relaxed_least}
use Rattle.dm_evaluate.proofs.laws.least_at_rest.Goals as goal

pub returns : goal.returns
returns c net rows path priced known evaluates rest = relaxed_least net rows path priced evaluates known rest
