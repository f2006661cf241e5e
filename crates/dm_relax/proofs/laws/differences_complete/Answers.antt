use Rattle.dm_relax.proofs.Differing.{differences_complete}
use Rattle.dm_relax.proofs.laws.differences_complete.Goals as goal

pub returns : goal.returns
returns c = differences_complete
