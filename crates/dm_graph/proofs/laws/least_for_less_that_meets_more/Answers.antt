use Rattle.dm_graph.proofs.Timetables.{least_for_more}
use Rattle.dm_graph.proofs.laws.least_for_less_that_meets_more.Goals as goal

pub returns : goal.returns
returns c = λ less more x r l m. least_for_more less more r x l m
