use Rattle.std.proofs.Common.{◌≡◌}
use Rattle.dm_team.proofs.working.steal_any.Given as goal

abbrev pub invariant-loop-place : goal.invariant-loop-place
invariant-loop-place g l = l.tallies.items ≡ l.initial.tallies.items
