use Rattle.std.proofs.Common.{◌≡◌, [], ◌++◌}
use Rattle.dm_stretch.specs.Inside.Standing.{standing_changes}
use Rattle.dm_stretch.proofs.standing.standing_changes.Given as goal

abbrev pub invariant-loop-a : goal.invariant-loop-a
invariant-loop-a l = l.decisions.items ≡ [] ++ standing_changes l.net l.rows l.window l.a
