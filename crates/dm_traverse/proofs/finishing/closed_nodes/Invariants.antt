use Rattle.std.proofs.Common.{◌≡◌, map, take}
use Rattle.dm_traverse.specs.Inside.Ending.{closed}
use Rattle.dm_traverse.proofs.finishing.closed_nodes.Given as goal

abbrev pub invariant-loop-node : goal.invariant-loop-node
invariant-loop-node l = l.all.items ≡ map (closed l.best) (take l.node-index l.nodes)
