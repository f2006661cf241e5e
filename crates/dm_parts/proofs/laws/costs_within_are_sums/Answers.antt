use Rattle.dm_parts.proofs.Listed.{costs_within_are_sums}
use Rattle.dm_parts.proofs.laws.costs_within_are_sums.Goals as goal

pub returns : goal.returns
returns c = costs_within_are_sums
