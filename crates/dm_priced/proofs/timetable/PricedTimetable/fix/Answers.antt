use Rattle.std.proofs.Common.{◌++◌, Bool, sym, ◌∙◌, ap, subst}
use Rattle.std.specs.Prelude.{slice_set, List, ℕ}
use Rattle.dm_settle.specs.Constraints.{ConstraintsValue}
use Rattle.dm_settle.specs.Settling.{AreEarly}
use Rattle.dm_priced.specs.Priced.{IsPriced}
use Rattle.dm_priced.proofs.Moves.{within_where_priced, told_is_priced}
use Rattle.dm_priced.proofs.timetable.PricedTimetable.fix.Goals as goal

pub returns-clause-priced : goal.returns-clause-priced
returns-clause-priced g c =
    told_is_priced c.args.net.now (record { live = c.self.inside.live; passed = c.self.inside.passed.items; cancelled = c.self.inside.cancelled.items; beside = c.self.inside.beside.items; charged = c.self.inside.charged.items; sums = record { lateness = c.self.inside.lateness; charged = c.self.inside.charged_weight; missed = c.self.inside.missed_weight } })
    (subst (IsPriced c.args.net.now) (sym c.self.view_is) c.requires.priced) c.fix.new.self c.moves.new.self.flags.passed.now c.moves.new.self.flags.cancelled.now c.moves.new.self.beside.now
    c.constraints.result.now.spans (slice_set c.times.result.now c.args.i c.args.time)
    c.moves.new.self.lateness c.moves.new.self.missed c.fix.ensures.live c.moves.ensures.knows
    (c.moves.ensures.flags ∙ ap (λ (fs : List Bool). fs ++ c.deref-2.result.now) c.deref.ensures.value ∙ ap (λ (fs : List Bool). c.self.inside.passed.items ++ fs) c.deref-2.ensures.value)
    (ap (λ (given : ConstraintsValue). given.spans) c.constraints.ensures ∙ ap (λ (given : ConstraintsValue). given.spans) (sym c.fix.ensures.floor))
    (ap (λ (x : List ℕ). slice_set x c.args.i c.args.time) c.times.ensures ∙ sym c.fix.ensures.fixed.times)

pub invariant_of-self : goal.invariant_of-self
invariant_of-self g c =
    within_where_priced c.args.net.now c.reveal.ensures.within _ (subst AreEarly c.times-2.ensures c.is_early.ensures) (returns-clause-priced g c)
