use Rattle.dm_settle.specs.Moving.{times_after}
use Rattle.dm_evaluate.specs.Inside.Marking.{MarksWhere, IsEarlyBothWaysAmong}
use Rattle.dm_evaluate.proofs.marking.mark_unmet.Given as goal

abbrev pub invariant-loop-a : goal.invariant-loop-a
invariant-loop-a l =
    MarksWhere (IsEarlyBothWaysAmong l.net l.to.constraints.now.spans (times_after l.to) l.to.into.now l.to.out_of.now l.a-index) l.initial.pairs l.pairs
