use Rattle.std.proofs.Common.{◌≡◌, take}
use Rattle.std.specs.Prelude.{fold}
use Rattle.dm_traverse.specs.Inside.Ending.{carried, least_with}
use Rattle.dm_traverse.proofs.finishing.bound_of.Given as goal

abbrev pub invariant-loop-node : goal.invariant-loop-node
invariant-loop-node l = l.bound ≡ fold (λ b n. least_with b (carried n)) l.best (take l.node-index l.nodes)
