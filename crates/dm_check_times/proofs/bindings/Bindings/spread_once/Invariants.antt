use Rattle.std.proofs.Common.{◌≡◌, ◌-◌, List, Bool, length}
use Rattle.dm_check_times.specs.Inside.Spreading.{HasSpread}
use Rattle.dm_check_times.proofs.bindings.Bindings.spread_once.Given as goal

abbrev pub invariant-loop-event : goal.invariant-loop-event
invariant-loop-event l = record {
  spread : (before : List Bool) → HasSpread l.self.net.now l.self.held.now l.self.spans.now l.times before l.initial.stale l.initial.due → HasSpread l.self.net.now l.self.held.now l.self.spans.now l.times before l.stale l.due;
  as_many_stale : length l.stale ≡ length l.initial.stale;
  as_many_due : length l.due ≡ length l.initial.due;
}

abbrev pub decreases-loop-event : goal.decreases-loop-event
decreases-loop-event l = length l.due - l.start
