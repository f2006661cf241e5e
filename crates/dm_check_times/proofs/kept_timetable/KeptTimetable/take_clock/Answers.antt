use Rattle.std.proofs.Common.{sym, subst}
use Rattle.dm_check_times.specs.Timetables.{KeptTimetableValue, IsTimetableOf}
use Rattle.dm_check_times.proofs.OfTimetables.{value, with_clock}
use Rattle.dm_check_times.proofs.kept_timetable.KeptTimetable.take_clock.Goals as goal

pub returns-clause-timetable : goal.returns-clause-timetable
returns-clause-timetable c =
    let t : KeptTimetableValue = value c.self.inside.held.items c.self.inside.spans.items c.self.inside.floors.items c.self.inside.times.items c.self.inside.stale c.self.inside.due c.self.inside.clock in
    with_clock c.args.net.now t c.clock-self-inside.result (subst (IsTimetableOf c.args.net.now) (sym c.self.view_is) c.requires)
