use Rattle.dm_stretch.proofs.Holding.{holding_more_costs_no_less}
use Rattle.dm_window.proofs.laws.holding_more_costs_no_less.Goals as goal

pub returns : goal.returns
returns c = holding_more_costs_no_less
