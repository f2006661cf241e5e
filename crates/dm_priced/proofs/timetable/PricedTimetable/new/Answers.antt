use Rattle.std.proofs.Common.{rules, subst}
use Rattle.dm_settle.specs.Settling.{AreEarly}
use Rattle.dm_priced.proofs.Moves.{within_where_priced, new_is_priced}
use Rattle.dm_priced.proofs.timetable.PricedTimetable.new.Goals as goal

pub returns-clause-priced : goal.returns-clause-priced
returns-clause-priced c =
    new_is_priced c.args.net.now c.args.live c.in_ok-passed.passed.items c.in_ok-cancelled.cancelled.items c.in_ok-beside.beside.items c.in_ok-charged.charged.items c.lateness_of-lateness.result c.times-2.result.now
    c.requires (search rules) (search rules) (search rules) (search rules) c.lateness_of-lateness.ensures c.times-2.ensures

pub invariant_of-result : goal.invariant_of-result
invariant_of-result c =
    within_where_priced c.args.net.now c.reveal.ensures.within _ (subst AreEarly c.times.ensures c.is_early.ensures) (returns-clause-priced c)
