use Rattle.std.proofs.Common.{◌≡◌, length}
use Rattle.dm_check_times.specs.Inside.Spreading.{HasSpread}
use Rattle.dm_check_times.proofs.bindings.Bindings.spread.Given as goal

abbrev pub invariant-loop-round : goal.invariant-loop-round
invariant-loop-round l = record {
  spread : HasSpread l.self.net.now l.self.held.now l.self.spans.now l.times l.initial.stale l.stale l.due;
  as_many_stale : length l.stale ≡ length l.initial.stale;
  as_many_due : length l.due ≡ length l.initial.due;
}
