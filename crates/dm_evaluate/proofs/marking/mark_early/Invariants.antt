use Rattle.dm_settle.specs.Moving.{times_after}
use Rattle.dm_evaluate.specs.Inside.Marking.{MarksWhere, IsEarlyAmong}
use Rattle.dm_evaluate.proofs.marking.mark_early.Given as goal

abbrev pub invariant-loop-a : goal.invariant-loop-a
invariant-loop-a l =
    MarksWhere (IsEarlyAmong l.net l.to.constraints.now.spans (times_after l.to) l.row l.a-index) l.initial.changes l.changes
