use Rattle.dm_check_plans.specs.Inside.Leaves.{meets, NoneNode}
use Rattle.dm_check_plans.proofs.leaves.is_any.Given as goal

abbrev pub invariant-loop-node : goal.invariant-loop-node
invariant-loop-node l = NoneNode (meets l.wanted) l.nodes l.node-index
