use Rattle.std.proofs.Common.{sym, subst}
use Rattle.dm_priced.specs.Priced.{IsPriced}
use Rattle.dm_priced.proofs.Moves.{within_beside, span_holds, span_is_priced}
use Rattle.dm_priced.proofs.timetable.PricedTimetable.set_span.Goals as goal

pub overflow_sub-self : goal.overflow_sub-self
overflow_sub-self c =
    span_holds c.args.net.now (record { live = c.self.inside.live; passed = c.self.inside.passed.items; cancelled = c.self.inside.cancelled.items; beside = c.self.inside.beside.items; charged = c.self.inside.charged.items; sums = record { lateness = c.self.inside.lateness; charged = c.self.inside.charged_weight; missed = c.self.inside.missed_weight } })
    (subst (IsPriced c.args.net.now) (sym c.self.view_is) c.requires.priced) c.args.a c.args.span c.requires.is_activity
    c.missed_with-before.result c.missed_with-after.result c.span-earlier.result c.deref.result.now c.deref-2.result.now c.times.result.now c.times-2.result.now
    c.deref.ensures.value c.deref-2.ensures.value c.times.ensures c.times-2.ensures c.deref.result.now c.deref-2.result.now c.deref.ensures.value c.deref-2.ensures.value
    c.span-earlier.ensures.value
    c.missed_with-before.ensures.weight c.missed_with-after.ensures.weight

pub returns-clause-priced : goal.returns-clause-priced
returns-clause-priced c =
    span_is_priced c.args.net.now (record { live = c.self.inside.live; passed = c.self.inside.passed.items; cancelled = c.self.inside.cancelled.items; beside = c.self.inside.beside.items; charged = c.self.inside.charged.items; sums = record { lateness = c.self.inside.lateness; charged = c.self.inside.charged_weight; missed = c.self.inside.missed_weight } })
    (subst (IsPriced c.args.net.now) (sym c.self.view_is) c.requires.priced) c.args.a c.args.span c.requires.is_activity
    c.missed_with-before.result c.missed_with-after.result c.span-earlier.result c.deref.result.now c.deref-2.result.now c.times.result.now c.times-2.result.now
    c.deref.ensures.value c.deref-2.ensures.value c.times.ensures c.times-2.ensures c.deref.result.now c.deref-2.result.now c.deref.ensures.value c.deref-2.ensures.value
    c.span-earlier.ensures.value
    c.missed_with-before.ensures.weight c.missed_with-after.ensures.weight
    c.set_span.new.self c.set_span.ensures.live c.set_span.ensures.span

pub invariant_of-self : goal.invariant_of-self
invariant_of-self c =
    within_beside c.args.net.now c.reveal.ensures.within _ c.self.invariant.lateness (returns-clause-priced c)
