use Rattle.dm_cert.proofs.NodesRead.{reads_node}
use Rattle.dm_cert.proofs.plan_text.NodeListed.read.Goals as goal

pub returns : goal.returns
returns c = rw c.node_in.ensures (reads_node c.args.line.now)
