use Rattle.dm_parts.proofs.WorkedParts.{counts_nothing_twice}
use Rattle.dm_parts.proofs.laws.counts_nothing_twice.Goals as goal

pub returns : goal.returns
returns c = counts_nothing_twice
