use Rattle.std.specs.Prelude.{◌≡◌}
use Rattle.dm_traverse.proofs.searching.Walker.better.Given as goal

abbrev pub invariant-loop-decision : goal.invariant-loop-decision
invariant-loop-decision l = l.self ≡ l.fn.self
