use Rattle.std.proofs.Common.{◌++◌, Bool, List, ap, refl, sym, ◌∙◌, subst}
use Rattle.dm_settle.specs.Settling.{AreEarly}
use Rattle.dm_priced.specs.Priced.{IsPriced}
use Rattle.dm_priced.proofs.Moves.{within_where_priced, told_is_priced}
use Rattle.dm_priced.proofs.timetable.PricedTimetable.settle_watched.Goals as goal

pub returns-clause-priced : goal.returns-clause-priced
returns-clause-priced g c =
    told_is_priced c.args.net.now (record { live = c.self.inside.live; passed = c.self.inside.passed.items; cancelled = c.self.inside.cancelled.items; beside = c.self.inside.beside.items; charged = c.self.inside.charged.items; sums = record { lateness = c.self.inside.lateness; charged = c.self.inside.charged_weight; missed = c.self.inside.missed_weight } })
    (subst (IsPriced c.args.net.now) (sym c.self.view_is) c.requires.priced) c.settle_watched.new.self c.settle_watched.new.watcher.flags.passed.now c.settle_watched.new.watcher.flags.cancelled.now c.settle_watched.new.watcher.beside.now
    c.settle_watched.new.self.given.spans c.settle_watched.new.self.times
    c.settle_watched.new.watcher.lateness c.settle_watched.new.watcher.missed c.settle_watched.ensures.live c.settle_watched.ensures.knows
    (c.settle_watched.ensures.flags ∙ ap (λ (fs : List Bool). fs ++ c.deref-2.result.now) c.deref.ensures.value ∙ ap (λ (fs : List Bool). c.self.inside.passed.items ++ fs) c.deref-2.ensures.value) refl refl

pub invariant_of-self : goal.invariant_of-self
invariant_of-self g c =
    within_where_priced c.args.net.now c.reveal.ensures.within _ (subst AreEarly c.times.ensures c.is_early.ensures) (returns-clause-priced g c)
