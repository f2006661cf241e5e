use Rattle.std.proofs.Common.{◌≡◌, map, take}
use Rattle.dm_part_bounds.specs.OnePart.{part_node}
use Rattle.dm_part_plans.proofs.alone.part_nodes.Given as goal

abbrev pub invariant-loop-node : goal.invariant-loop-node
invariant-loop-node l = l.all.items ≡ map part_node (take l.node-index l.nodes)
