use Rattle.std.proofs.Common.{List, Bool, ◌≡◌, refl, ap, ◌∙◌, length, false, length-set}
use Rattle.dm_check_times.proofs.Spreading.{spread_next}
use Rattle.dm_check_times.proofs.bindings.Bindings.spread_once.Goals as goal

pub loop-event-init : goal.loop-event-init
loop-event-init c = record { spread = λ before had. had; as_many_stale = refl; as_many_due = refl }

pub loop-event-preserved : goal.loop-event-preserved
loop-event-preserved c =
    let had = c.loop-event.invariant in
    let spreads = c.spread_from.ensures.spreads in
    let same : length c.clear.new.self ≡ length c.loop-event.due =
    ap (λ (m : List Bool). length m) c.clear.ensures ∙ (length-set c.first_from.new.self c.in-Some.event false ∙ ap (λ (m : List Bool). length m) c.in-Some.ensures.same) in
    record {
      spread = λ before first. spread_next c.args.self.now.net.now c.args.self.now.held.now c.args.self.now.spans.now c.args.times.now c.in-Some.event before c.loop-event.stale c.spread_from.new.stale c.loop-event.due c.first_from.new.self c.clear.new.self c.spread_from.new.due
          c.in-Some.ensures.same c.clear.ensures (had.spread before first) c.spread_from.ensures;
      as_many_stale = spreads.as_many ∙ had.as_many_stale;
      as_many_due = spreads.as_many_due ∙ (same ∙ had.as_many_due);
    }
