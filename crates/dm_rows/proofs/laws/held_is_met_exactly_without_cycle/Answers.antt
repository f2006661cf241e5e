use Rattle.dm_rows.proofs.Holding.{held_is_met_exactly_without_cycle}
use Rattle.dm_rows.proofs.laws.held_is_met_exactly_without_cycle.Goals as goal

pub returns : goal.returns
returns c = held_is_met_exactly_without_cycle
