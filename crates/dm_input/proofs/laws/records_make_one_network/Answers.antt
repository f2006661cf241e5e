use Rattle.dm_input.proofs.OneNetwork.{one_network}
use Rattle.dm_input.proofs.laws.records_make_one_network.Goals as goal

pub returns : goal.returns
returns c = one_network
