use Rattle.dm_gen.proofs.Refusing.{make_network}
use Rattle.dm_gen.proofs.laws.records_make_network.Goals as goal

pub returns : goal.returns
returns c = make_network
