use Rattle.dm_rows.proofs.AsGraph.{meets_as_graph}
use Rattle.dm_rows.proofs.laws.meets_as_graph.Goals as goal

pub returns : goal.returns
returns c = meets_as_graph
