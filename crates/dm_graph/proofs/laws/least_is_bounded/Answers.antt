use Rattle.dm_graph.proofs.Rounds.{least_is_bounded}
use Rattle.dm_graph.proofs.laws.least_is_bounded.Goals as goal

pub returns : goal.returns
returns c = least_is_bounded
