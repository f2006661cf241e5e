use Rattle.dm_graph.proofs.Timetables.{less_is_no_later}
use Rattle.dm_graph.proofs.laws.less_is_no_later.Goals as goal

pub returns : goal.returns
returns c = λ less more x y r l m. less_is_no_later less more r x y l m.meets
