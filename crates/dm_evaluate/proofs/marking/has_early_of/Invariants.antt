use Rattle.std.proofs.Common.{ℕ}
use Rattle.dm_settle.specs.Moving.{times_after}
use Rattle.dm_paths.specs.RowsRead.{IsAmong}
use Rattle.dm_evaluate.specs.Inside.Marking.{IsEarlyHeadway}
use Rattle.dm_evaluate.proofs.marking.has_early_of.Given as goal

abbrev pub invariant-loop-a : goal.invariant-loop-a
invariant-loop-a l =
    (b : ℕ) → IsAmong l.to.into.now l.a-index b → IsEarlyHeadway l.net l.to.constraints.now.spans (times_after l.to) l.p b → ⊥
