use Rattle.dm_graph.proofs.Transfers.{positive_beyond}
use Rattle.dm_graph.proofs.laws.cycles_are_positive_beyond_arcs_without_one.Goals as goal

pub returns : goal.returns
returns c = λ g h each none. positive_beyond g h each none
