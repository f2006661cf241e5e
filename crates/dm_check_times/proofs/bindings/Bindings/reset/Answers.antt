use Rattle.std.proofs.Common.{List, Bool, ◌≡◌, refl, ap, ◌∙◌, arith, length, true, length-set}
use Rattle.dm_check_times.proofs.Spreading.{reset_none, reset_next, reset_all, none_left}
use Rattle.dm_check_times.proofs.Noted.{notes_none, notes_then, notes_one}
use Rattle.dm_check_times.proofs.bindings.Bindings.reset.Goals as goal

pub loop-event-init : goal.loop-event-init
loop-event-init c = record { resetting = reset_none c.args.self.now.net.now c.args.self.now.held.now c.args.floors.now c.args.times.now c.args.stale.now c.args.due.now; as_many_due = refl; notes = notes_none c.args.times.now c.args.moved.now.flags }

pub loop-event-preserved : goal.loop-event-preserved
loop-event-preserved c =
    let had = c.loop-event.invariant in
    let within = c.in-Some.ensures.first.within in
    let stale = had.resetting.as_many in
    let times = had.resetting.done.as_many in
    let due = had.as_many_due in
    let same : length c.mark.new.self ≡ length c.loop-event.due = ap (λ (m : List Bool). length m) c.mark.ensures ∙ length-set c.loop-event.due c.in-Some.event true in
    record {
      resetting = reset_next c.args.self.now.net.now c.args.self.now.held.now c.args.floors.now c.loop-event.start c.in-Some.event c.args.stale.now c.loop-event.stale c.first_from.new.self c.clear.new.self c.args.times.now c.loop-event.times
          c.loop-event.due c.mark.new.self c.mark_tails.new.due had.resetting c.in-Some.ensures.same c.clear.ensures c.in-Some.ensures.first (omega (arith, within, stale, times)) (omega (arith, within, stale, due)) c.mark.ensures c.mark_tails.ensures;
      as_many_due = c.mark_tails.ensures.as_many ∙ (same ∙ due);
      notes = notes_then c.args.times.now c.loop-event.times _ c.args.moved.now.flags c.loop-event.moved.flags c.insert.new.self.flags had.notes
          (notes_one c.loop-event.times _ c.loop-event.moved.flags c.insert.new.self.flags c.in-Some.event _ (omega (arith, within, stale, had.notes.as_many, c.requires.as_many_moved, c.requires.as_many_stale)) refl c.insert.ensures);
    }

pub returns-clause-reset : goal.returns-clause-reset
returns-clause-reset c =
    reset_all c.args.self.now.net.now c.args.self.now.held.now c.args.floors.now c.loop-event.start (length c.args.self.now.net.now.events) c.args.stale.now c.loop-event.stale c.first_from.new.self c.args.times.now c.loop-event.times c.loop-event.due
    c.loop-event.invariant.resetting c.in_default.ensures.same c.in_default.ensures.none (omega (arith, c.requires.as_many_stale))

pub returns-clause-none_stale : goal.returns-clause-none_stale
returns-clause-none_stale c =
    none_left c.args.self.now.net.now c.args.self.now.held.now c.args.floors.now c.loop-event.start c.args.stale.now c.loop-event.stale c.first_from.new.self c.args.times.now c.loop-event.times c.loop-event.due
    c.loop-event.invariant.resetting c.in_default.ensures.same c.in_default.ensures.none

pub insert-requires : goal.insert-requires
insert-requires c =
    let had = c.loop-event.invariant in
    let within = c.in-Some.ensures.first.within in
    let stale = had.resetting.as_many in
    omega (arith, within, stale, had.notes.as_many, c.requires.as_many_moved, c.requires.as_many_stale)
