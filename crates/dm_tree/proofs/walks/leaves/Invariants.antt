use Rattle.std.proofs.Common.{drop}
use Rattle.dm_tree.proofs.Walked.{FindsLeaves}
use Rattle.dm_tree.proofs.walks.leaves.Given as goal

abbrev pub invariant-loop-node : goal.invariant-loop-node
invariant-loop-node l = FindsLeaves l.nodes (drop l.node-index l.nodes) l.path.items l.found.items
