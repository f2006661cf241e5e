use Rattle.std.proofs.Common.{◌≡◌, ◌++◌}
use Rattle.dm_stretch.specs.Inside.Standing.{standing_pairs}
use Rattle.dm_stretch.proofs.standing.with_standing_pairs.Given as goal

abbrev pub invariant-loop-p : goal.invariant-loop-p
invariant-loop-p l = l.decisions.items ≡ l.initial.decisions.items ++ standing_pairs l.net l.rows l.window l.p
