use Rattle.std.proofs.Common.{◌≤◌}
use Rattle.dm_traverse.proofs.finishing.least_open.Given as goal

abbrev pub invariant-loop-node : goal.invariant-loop-node
invariant-loop-node l = l.low ≤ l.best
