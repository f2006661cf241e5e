use Rattle.dm_parts.proofs.Counting.{CountsNodes}
use Rattle.dm_parts.proofs.sizes.nodes_in.Given as goal

abbrev pub invariant-loop-part : goal.invariant-loop-part
invariant-loop-part l = CountsNodes l.parts l.part-index l.nodes
