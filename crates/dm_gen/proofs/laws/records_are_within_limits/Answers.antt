use Rattle.dm_gen.proofs.Refusing.{within_limits}
use Rattle.dm_gen.proofs.laws.records_are_within_limits.Goals as goal

pub returns : goal.returns
returns c = within_limits
