use Rattle.dm_rows.proofs.Holding.{least_exists_without_cycle}
use Rattle.dm_rows.proofs.laws.least_exists_without_cycle.Goals as goal

pub returns : goal.returns
returns c = least_exists_without_cycle
