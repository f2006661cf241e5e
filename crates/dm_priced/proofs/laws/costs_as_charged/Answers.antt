use Rattle.dm_priced.proofs.Pricing.{costs_as_charged}
use Rattle.dm_priced.proofs.laws.costs_as_charged.Goals as goal

pub returns : goal.returns
returns c net rows charges priced penalty known follows = costs_as_charged net rows charges priced known follows penalty
