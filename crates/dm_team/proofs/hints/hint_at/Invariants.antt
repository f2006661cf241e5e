use Rattle.std.specs.Prelude.{◌≡◌, Some, drop}
use Rattle.dm_team.specs.Nodes.{hint_along}
use Rattle.dm_team.proofs.hints.hint_at.Given as goal

abbrev pub invariant-loop-i : goal.invariant-loop-i
invariant-loop-i l = hint_along l.hints (Some l.node) (drop l.i l.path) ≡ hint_along l.hints (Some 0) l.path
