use Rattle.std.proofs.Common.{◌≡◌, take}
use Rattle.dm_relax.specs.Complete.{differences_from}
use Rattle.dm_stretch.proofs.rebasing.differing.Given as goal

abbrev pub invariant-loop-decision : goal.invariant-loop-decision
invariant-loop-decision l = l.kept.items ≡ differences_from l.net l.rows (take l.decision-index l.decisions)
