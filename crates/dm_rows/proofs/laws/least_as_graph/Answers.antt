use Rattle.dm_rows.proofs.AsGraph.{least_as_graph}
use Rattle.dm_rows.proofs.laws.least_as_graph.Goals as goal

pub returns : goal.returns
returns c = least_as_graph
