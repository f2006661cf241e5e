use Rattle.std.proofs.Common.{◌≡◌, true, sym, ap, subst, ◌∙◌, arith, length-set}
use Rattle.std.specs.Vec.{with_items}
use Rattle.std.proofs.lemmas.List.{with_items_is}
use Rattle.dm_settle.specs.Constraints.{ConstraintsValue}
use Rattle.dm_priced.specs.Priced.{IsPriced}
use Rattle.dm_priced.proofs.Pricing.{into_are_activities}
use Rattle.dm_priced.proofs.Moves.{within_beside, passed_holds, passed_is_priced}
use Rattle.dm_priced.proofs.timetable.PricedTimetable.set_passed.Goals as goal

pub missed_along-before-requires-clause-activities : goal.missed_along-before-requires-clause-activities
missed_along-before-requires-clause-activities c = into_are_activities c.args.net.now c.args.i c.args.into.now c.requires.into

pub missed_along-after-requires-clause-activities : goal.missed_along-after-requires-clause-activities
missed_along-after-requires-clause-activities c = into_are_activities c.args.net.now c.args.i c.args.into.now c.requires.into

pub flag_beside-requires-clause-activities : goal.flag_beside-requires-clause-activities
flag_beside-requires-clause-activities c = into_are_activities c.args.net.now c.args.i c.args.into.now c.requires.into

pub overflow_sub-self : goal.overflow_sub-self
overflow_sub-self c =
    passed_holds c.args.net.now (record { live = c.self.inside.live; passed = c.self.inside.passed.items; cancelled = c.self.inside.cancelled.items; beside = c.self.inside.beside.items; charged = c.self.inside.charged.items; sums = record { lateness = c.self.inside.lateness; charged = c.self.inside.charged_weight; missed = c.self.inside.missed_weight } })
    (subst (IsPriced c.args.net.now) (sym c.self.view_is) c.requires.priced) c.args.i c.args.passed c.args.into.now c.requires.into
    c.missed_along-before.result c.missed_along-after.result c.constraints-constraints.result.now.spans c.times-times.result.now
    c.deref.result.now c.deref-3.result.now c.deref-2.result.now c.deref-4.result.now
    (ap (λ (given : ConstraintsValue). given.spans) c.constraints-constraints.ensures) c.times-times.ensures
    c.deref.ensures.value c.deref-3.ensures.value c.deref-2.ensures.value c.deref-4.ensures.value c.missed_along-before.ensures.weight c.missed_along-after.ensures.weight

pub returns-clause-priced : goal.returns-clause-priced
returns-clause-priced c =
    let flags = c.flag_beside.new.beside in
    let as_many = c.flag_beside.ensures.as_many ∙ length-set c.deref_mut.result.now c.args.i true in
    let beside : (with_items c.self.inside.beside flags).items ≡ flags = with_items_is c.self.inside.beside flags (omega (arith, as_many)) in
    rw beside (passed_is_priced c.args.net.now (record { live = c.self.inside.live; passed = c.self.inside.passed.items; cancelled = c.self.inside.cancelled.items; beside = c.self.inside.beside.items; charged = c.self.inside.charged.items; sums = record { lateness = c.self.inside.lateness; charged = c.self.inside.charged_weight; missed = c.self.inside.missed_weight } })
    (subst (IsPriced c.args.net.now) (sym c.self.view_is) c.requires.priced) c.args.i c.args.passed c.args.into.now c.requires.into
    c.missed_along-before.result c.missed_along-after.result c.constraints-constraints.result.now.spans c.times-times.result.now
    c.deref.result.now c.deref-3.result.now c.deref-2.result.now c.deref-4.result.now
    (ap (λ (given : ConstraintsValue). given.spans) c.constraints-constraints.ensures) c.times-times.ensures
    c.deref.ensures.value c.deref-3.ensures.value c.deref-2.ensures.value c.deref-4.ensures.value c.missed_along-before.ensures.weight c.missed_along-after.ensures.weight
    c.deref_mut.result.now flags c.requires.is_event c.deref_mut.ensures.value c.flag_beside.ensures)

pub invariant_of-self : goal.invariant_of-self
invariant_of-self c =
    within_beside c.args.net.now c.reveal.ensures.within _ c.self.invariant.lateness (returns-clause-priced c)
