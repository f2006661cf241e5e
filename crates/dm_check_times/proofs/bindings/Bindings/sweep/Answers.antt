use Rattle.std.proofs.Common.{List, Bool, ◌≡◌, arith, refl, ap, ◌∙◌, length, false, length-set}
use Rattle.dm_check_times.specs.Binding.{graph_with}
use Rattle.dm_check_times.specs.Inside.Rising.{latest}
use Rattle.dm_check_times.proofs.Rising.{swept_none, swept_next, swept_last}
use Rattle.dm_check_times.proofs.Noted.{notes_none, notes_then}
use Rattle.dm_check_times.proofs.bindings.Bindings.sweep.Goals as goal

pub loop-event-init : goal.loop-event-init
loop-event-init c = record {
  swept = λ floor met. swept_none (graph_with c.args.self.now.net.now c.args.self.now.held.now c.args.self.now.spans.now floor) _ _ met;
  within = c.requires.within;
  as_many_times = refl;
  as_many_flags = refl;
  inside = omega arith;
  notes = notes_none c.args.times.now c.args.moved.now.flags;
}

pub loop-event-preserved : goal.loop-event-preserved
loop-event-preserved c =
    let had = c.loop-event.invariant in
    let first = c.in-Some.ensures.first in
    let rise = c.relax_from.ensures.relaxes (λ _. 0) in
    let before = first.not_before in
    let inside = first.within in
    let same : length c.clear.new.self ≡ length c.loop-event.due =
    ap (λ (m : List Bool). length m) c.clear.ensures ∙ (length-set c.first_from.new.self c.in-Some.event false ∙ ap (λ (m : List Bool). length m) c.in-Some.ensures.same) in
    let flags = rise.rise.flags in
    record {
      swept = λ floor met. swept_next (graph_with c.args.self.now.net.now c.args.self.now.held.now c.args.self.now.spans.now floor) c.loop-event.start c.in-Some.event c.args.times.now c.loop-event.times c.relax_from.new.times
          c.loop-event.due c.first_from.new.self c.clear.new.self c.relax_from.new.due c.in-Some.ensures.same c.clear.ensures first (had.swept floor met) (c.relax_from.ensures.relaxes floor);
      within = λ i. let w = rise.within (latest c.args.round c.loop-event.start) had.within i in omega arith;
      as_many_times = rise.rise.times ∙ had.as_many_times;
      as_many_flags = flags ∙ (same ∙ had.as_many_flags);
      inside = omega arith;
      notes = notes_then c.args.times.now c.loop-event.times c.relax_from.new.times c.args.moved.now.flags c.loop-event.moved.flags c.relax_from.new.moved.flags had.notes c.relax_from.ensures.notes;
    }

pub loop-event-smaller : goal.loop-event-smaller
loop-event-smaller c =
    let first = c.in-Some.ensures.first in
    let before = first.not_before in
    let inside = first.within in
    let same : length c.clear.new.self ≡ length c.loop-event.due =
    ap (λ (m : List Bool). length m) c.clear.ensures ∙ (length-set c.first_from.new.self c.in-Some.event false ∙ ap (λ (m : List Bool). length m) c.in-Some.ensures.same) in
    let flags = (c.relax_from.ensures.relaxes (λ _. 0)).rise.flags in
    omega (arith, before, inside, same, flags)

pub returns-clause-swept : goal.returns-clause-swept
returns-clause-swept c = λ floor met.
    swept_last (graph_with c.args.self.now.net.now c.args.self.now.held.now c.args.self.now.spans.now floor) c.loop-event.start _ c.args.times.now c.loop-event.times c.loop-event.due c.first_from.new.self c.in_default.ensures.same c.in_default.ensures.none (c.loop-event.invariant.swept floor met)
