use Rattle.dm_lives.proofs.Synced.{starts_safely}
use Rattle.dm_lives.proofs.laws.synced_starts_are_safe.Goals as goal

pub returns : goal.returns
returns g c = starts_safely g.S.Store
