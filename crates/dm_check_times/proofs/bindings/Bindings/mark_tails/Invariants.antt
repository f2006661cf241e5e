use Rattle.dm_check_times.specs.Inside.Spreading.{HasMarkedTailsTo}
use Rattle.dm_check_times.proofs.bindings.Bindings.mark_tails.Given as goal

abbrev pub invariant-loop-a : goal.invariant-loop-a
invariant-loop-a l = HasMarkedTailsTo l.self.net.now l.self.held.now l.row l.a-index l.initial.due l.due
