use Rattle.dm_check_times.specs.Inside.Spreading.{HasSpreadTo}
use Rattle.dm_check_times.proofs.bindings.Bindings.spread_from.Given as goal

abbrev pub invariant-loop-a : goal.invariant-loop-a
invariant-loop-a l = HasSpreadTo l.self.net.now l.self.held.now l.self.spans.now l.times l.from l.row l.a-index l.initial.stale l.stale l.initial.due l.due
