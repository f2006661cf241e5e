use Rattle.dm_tree.specs.Inside.Assembling.{SeenSoFar, reached}
use Rattle.dm_tree.proofs.drafts.node_due.Given as goal

abbrev pub invariant-loop-i : goal.invariant-loop-i
invariant-loop-i l = SeenSoFar l.leaves l.path (reached l.group l.i) l.found
