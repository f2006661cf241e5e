use Rattle.dm_cert.proofs.SolvedLinesRead.{reads_part_node}
use Rattle.dm_cert.proofs.solved_text.PartNodeListed.read.Goals as goal

pub returns : goal.returns
returns c = rw c.part_node_in.ensures (reads_part_node c.args.line.now)
