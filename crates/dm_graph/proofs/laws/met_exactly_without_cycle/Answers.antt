use Rattle.dm_graph.proofs.Rounds.{round, round_is_least}
use Rattle.dm_graph.proofs.Timetables.{met_has_no_cycle}
use Rattle.dm_graph.proofs.laws.met_exactly_without_cycle.Goals as goal

pub returns : goal.returns
returns c = λ g positive. (λ met. met_has_no_cycle g met.0 positive met.1, λ none. (round g g.shape.events, (round_is_least g none).meets))
