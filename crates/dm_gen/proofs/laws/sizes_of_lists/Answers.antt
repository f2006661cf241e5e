use Rattle.dm_gen.proofs.Sizing.{sizes}
use Rattle.dm_gen.proofs.laws.sizes_of_lists.Goals as goal

pub returns : goal.returns
returns c = sizes
