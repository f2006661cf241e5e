use Rattle.dm_graph.proofs.Rounds.{round, round_is_least}
use Rattle.dm_graph.proofs.laws.least_exists_without_cycle.Goals as goal

pub returns : goal.returns
returns c = λ g none. (round g g.shape.events, round_is_least g none)
