use Rattle.dm_graph.proofs.Timetables.{same_is_least_alike}
use Rattle.dm_graph.proofs.laws.same_is_least_alike.Goals as goal

pub returns : goal.returns
returns c = same_is_least_alike
