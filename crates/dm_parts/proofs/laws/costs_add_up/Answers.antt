use Rattle.dm_parts.proofs.Adding.{costs_add_up}
use Rattle.dm_parts.proofs.laws.costs_add_up.Goals as goal

pub returns : goal.returns
returns c = costs_add_up
