use Rattle.std.proofs.Common.{◌≡◌, sym, ap, subst}
use Rattle.dm_settle.specs.Constraints.{ConstraintsValue}
use Rattle.dm_settle.specs.Settling.{AreEarly}
use Rattle.dm_priced.specs.Priced.{PricedValue, IsPriced, is_flagged}
use Rattle.dm_priced.proofs.Pricing.{out_are_activities}
use Rattle.dm_priced.proofs.Moves.{within_where_priced, cancelled_holds, late_holds, lost_holds, cancelled_is_priced}
use Rattle.dm_priced.proofs.timetable.PricedTimetable.cancel.Goals as goal

pub missed_along-missed-requires-clause-activities : goal.missed_along-missed-requires-clause-activities
missed_along-missed-requires-clause-activities c = out_are_activities c.args.net.now c.args.i c.args.out_of.now c.requires.out_of

pub missed_along-missed_now-requires-clause-activities : goal.missed_along-missed_now-requires-clause-activities
missed_along-missed_now-requires-clause-activities c = out_are_activities c.args.net.now c.args.i c.args.out_of.now c.requires.out_of

pub overflow_sub-missed_weight : goal.overflow_sub-missed_weight
overflow_sub-missed_weight c =
    cancelled_holds c.args.net.now (record { live = c.self.inside.live; passed = c.self.inside.passed.items; cancelled = c.self.inside.cancelled.items; beside = c.self.inside.beside.items; charged = c.self.inside.charged.items; sums = record { lateness = c.self.inside.lateness; charged = c.self.inside.charged_weight; missed = c.self.inside.missed_weight } })
    (subst (IsPriced c.args.net.now) (sym c.self.view_is) c.requires.priced)
    c.args.i c.args.cancelled c.is_cancelled-was.result c.requires.is_event c.args.out_of.now c.requires.out_of
    c.missed_along-missed.result c.missed_along-missed_now.result c.constraints-constraints.result.now.spans c.times-times.result.now
    c.deref-2.result.now c.deref-4.result.now c.deref.result.now c.deref-3.result.now
    (subst (λ (v : PricedValue). c.is_cancelled-was.result ≡ is_flagged v.cancelled c.args.i) (sym c.self.view_is) c.is_cancelled-was.ensures)
    (ap (λ (given : ConstraintsValue). given.spans) c.constraints-constraints.ensures) c.times-times.ensures
    c.deref-2.ensures.value c.deref-4.ensures.value c.deref.ensures.value c.deref-3.ensures.value
    c.missed_along-missed.ensures.weight c.missed_along-missed_now.ensures.weight
    c.time-time.result c.late_at-late.result c.late_at-late_now.result c.lost_at-lost.result c.lost_at-lost_now.result
    c.time-time.ensures.value c.late_at-late.ensures.cost c.late_at-late_now.ensures.cost c.lost_at-lost.ensures.weight c.lost_at-lost_now.ensures.weight

pub overflow_sub-lateness : goal.overflow_sub-lateness
overflow_sub-lateness c =
    late_holds c.args.net.now (record { live = c.self.inside.live; passed = c.self.inside.passed.items; cancelled = c.self.inside.cancelled.items; beside = c.self.inside.beside.items; charged = c.self.inside.charged.items; sums = record { lateness = c.self.inside.lateness; charged = c.self.inside.charged_weight; missed = c.self.inside.missed_weight } })
    (subst (IsPriced c.args.net.now) (sym c.self.view_is) c.requires.priced)
    c.args.i c.args.cancelled c.is_cancelled-was.result c.requires.is_event c.args.out_of.now c.requires.out_of
    c.missed_along-missed.result c.missed_along-missed_now.result c.constraints-constraints.result.now.spans c.times-times.result.now
    c.deref-2.result.now c.deref-4.result.now c.deref.result.now c.deref-3.result.now
    (subst (λ (v : PricedValue). c.is_cancelled-was.result ≡ is_flagged v.cancelled c.args.i) (sym c.self.view_is) c.is_cancelled-was.ensures)
    (ap (λ (given : ConstraintsValue). given.spans) c.constraints-constraints.ensures) c.times-times.ensures
    c.deref-2.ensures.value c.deref-4.ensures.value c.deref.ensures.value c.deref-3.ensures.value
    c.missed_along-missed.ensures.weight c.missed_along-missed_now.ensures.weight
    c.time-time.result c.late_at-late.result c.late_at-late_now.result c.lost_at-lost.result c.lost_at-lost_now.result
    c.time-time.ensures.value c.late_at-late.ensures.cost c.late_at-late_now.ensures.cost c.lost_at-lost.ensures.weight c.lost_at-lost_now.ensures.weight

pub overflow_sub-charged_weight : goal.overflow_sub-charged_weight
overflow_sub-charged_weight c =
    lost_holds c.args.net.now (record { live = c.self.inside.live; passed = c.self.inside.passed.items; cancelled = c.self.inside.cancelled.items; beside = c.self.inside.beside.items; charged = c.self.inside.charged.items; sums = record { lateness = c.self.inside.lateness; charged = c.self.inside.charged_weight; missed = c.self.inside.missed_weight } })
    (subst (IsPriced c.args.net.now) (sym c.self.view_is) c.requires.priced)
    c.args.i c.args.cancelled c.is_cancelled-was.result c.requires.is_event c.args.out_of.now c.requires.out_of
    c.missed_along-missed.result c.missed_along-missed_now.result c.constraints-constraints.result.now.spans c.times-times.result.now
    c.deref-2.result.now c.deref-4.result.now c.deref.result.now c.deref-3.result.now
    (subst (λ (v : PricedValue). c.is_cancelled-was.result ≡ is_flagged v.cancelled c.args.i) (sym c.self.view_is) c.is_cancelled-was.ensures)
    (ap (λ (given : ConstraintsValue). given.spans) c.constraints-constraints.ensures) c.times-times.ensures
    c.deref-2.ensures.value c.deref-4.ensures.value c.deref.ensures.value c.deref-3.ensures.value
    c.missed_along-missed.ensures.weight c.missed_along-missed_now.ensures.weight
    c.time-time.result c.late_at-late.result c.late_at-late_now.result c.lost_at-lost.result c.lost_at-lost_now.result
    c.time-time.ensures.value c.late_at-late.ensures.cost c.late_at-late_now.ensures.cost c.lost_at-lost.ensures.weight c.lost_at-lost_now.ensures.weight

pub returns-clause-priced : goal.returns-clause-priced
returns-clause-priced c =
    cancelled_is_priced c.args.net.now (record { live = c.self.inside.live; passed = c.self.inside.passed.items; cancelled = c.self.inside.cancelled.items; beside = c.self.inside.beside.items; charged = c.self.inside.charged.items; sums = record { lateness = c.self.inside.lateness; charged = c.self.inside.charged_weight; missed = c.self.inside.missed_weight } })
    (subst (IsPriced c.args.net.now) (sym c.self.view_is) c.requires.priced)
    c.args.i c.args.cancelled c.is_cancelled-was.result c.requires.is_event c.args.out_of.now c.requires.out_of
    c.missed_along-missed.result c.missed_along-missed_now.result c.constraints-constraints.result.now.spans c.times-times.result.now
    c.deref-2.result.now c.deref-4.result.now c.deref.result.now c.deref-3.result.now
    (subst (λ (v : PricedValue). c.is_cancelled-was.result ≡ is_flagged v.cancelled c.args.i) (sym c.self.view_is) c.is_cancelled-was.ensures)
    (ap (λ (given : ConstraintsValue). given.spans) c.constraints-constraints.ensures) c.times-times.ensures
    c.deref-2.ensures.value c.deref-4.ensures.value c.deref.ensures.value c.deref-3.ensures.value
    c.missed_along-missed.ensures.weight c.missed_along-missed_now.ensures.weight
    c.time-time.result c.late_at-late.result c.late_at-late_now.result c.lost_at-lost.result c.lost_at-lost_now.result
    c.time-time.ensures.value c.late_at-late.ensures.cost c.late_at-late_now.ensures.cost c.lost_at-lost.ensures.weight c.lost_at-lost_now.ensures.weight

pub invariant_of-self : goal.invariant_of-self
invariant_of-self c =
    within_where_priced c.args.net.now c.reveal.ensures.within _ (subst AreEarly c.times-times.ensures c.is_early.ensures) (returns-clause-priced c)
