use Rattle.dm_rows.specs.Cost.{is_lost_change}
use Rattle.dm_priced.proofs.Pricing.{costs_as_charged}
use Rattle.dm_priced.proofs.laws.costs_as_rows.Goals as goal

pub returns : goal.returns
returns c net rows priced penalty known follows = costs_as_charged net rows (is_lost_change net rows) priced known follows penalty
