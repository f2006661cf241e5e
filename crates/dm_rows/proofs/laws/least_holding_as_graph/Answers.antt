use Rattle.dm_rows.proofs.AsGraph.{least_holding_as_graph}
use Rattle.dm_rows.proofs.laws.least_holding_as_graph.Goals as goal

pub returns : goal.returns
returns c = least_holding_as_graph
