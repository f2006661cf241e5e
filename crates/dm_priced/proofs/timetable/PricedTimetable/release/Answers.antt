use Rattle.std.proofs.Common.{sym, ap, subst}
use Rattle.dm_settle.specs.Constraints.{ConstraintsValue}
use Rattle.dm_priced.specs.Priced.{IsPriced}
use Rattle.dm_priced.proofs.Moves.{held_is_priced}
use Rattle.dm_priced.proofs.timetable.PricedTimetable.release.Goals as goal

pub returns-clause-priced : goal.returns-clause-priced
returns-clause-priced c =
    held_is_priced c.args.net.now (record { live = c.self.inside.live; passed = c.self.inside.passed.items; cancelled = c.self.inside.cancelled.items; beside = c.self.inside.beside.items; charged = c.self.inside.charged.items; sums = record { lateness = c.self.inside.lateness; charged = c.self.inside.charged_weight; missed = c.self.inside.missed_weight } })
    c.release.new.self (subst (IsPriced c.args.net.now) (sym c.self.view_is) c.requires.priced) c.release.ensures.live
    (ap (λ (given : ConstraintsValue). given.spans) c.release.ensures.held) c.release.ensures.times
