use Rattle.dm_check_times.specs.Inside.Beginning.{HasMarkedHeads}
use Rattle.dm_check_times.proofs.beginning.mark_changed.Given as goal

abbrev pub invariant-loop-a : goal.invariant-loop-a
invariant-loop-a l = HasMarkedHeads l.net l.before l.now l.a l.initial.stale l.stale l.initial.due l.due
