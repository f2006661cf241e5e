use Rattle.std.proofs.Common.{◌≡◌, sym, subst}
use Rattle.dm_priced.specs.Priced.{PricedValue, IsPriced, is_flagged}
use Rattle.dm_priced.proofs.Moves.{within_beside, charge_holds, charge_is_priced}
use Rattle.dm_priced.proofs.timetable.PricedTimetable.charge.Goals as goal

pub overflow_sub-self : goal.overflow_sub-self
overflow_sub-self c =
    charge_holds c.args.net.now (record { live = c.self.inside.live; passed = c.self.inside.passed.items; cancelled = c.self.inside.cancelled.items; beside = c.self.inside.beside.items; charged = c.self.inside.charged.items; sums = record { lateness = c.self.inside.lateness; charged = c.self.inside.charged_weight; missed = c.self.inside.missed_weight } })
    (subst (IsPriced c.args.net.now) (sym c.self.view_is) c.requires.priced) c.args.a c.args.charged c.is_charged.result c.requires.is_activity c.activity.result.now
    c.weight_if-before.result c.weight_if-after.result c.activity.ensures (subst (λ (v : PricedValue). c.is_charged.result ≡ is_flagged v.charged c.args.a) (sym c.self.view_is) c.is_charged.ensures)
    c.weight_if-before.ensures c.weight_if-after.ensures

pub returns-clause-priced : goal.returns-clause-priced
returns-clause-priced c =
    charge_is_priced c.args.net.now (record { live = c.self.inside.live; passed = c.self.inside.passed.items; cancelled = c.self.inside.cancelled.items; beside = c.self.inside.beside.items; charged = c.self.inside.charged.items; sums = record { lateness = c.self.inside.lateness; charged = c.self.inside.charged_weight; missed = c.self.inside.missed_weight } })
    (subst (IsPriced c.args.net.now) (sym c.self.view_is) c.requires.priced) c.args.a c.args.charged c.is_charged.result c.requires.is_activity c.activity.result.now
    c.weight_if-before.result c.weight_if-after.result c.activity.ensures (subst (λ (v : PricedValue). c.is_charged.result ≡ is_flagged v.charged c.args.a) (sym c.self.view_is) c.is_charged.ensures)
    c.weight_if-before.ensures c.weight_if-after.ensures

pub invariant_of-self : goal.invariant_of-self
invariant_of-self c =
    within_beside c.args.net.now c.reveal.ensures.within _ c.self.invariant.lateness (returns-clause-priced c)
