use Rattle.std.proofs.Common.{sym, subst}
use Rattle.dm_check_plans.specs.Inside.Timetables.{IsRoomOf}
use Rattle.dm_check_plans.proofs.Begun.{known_given, still_known}
use Rattle.dm_check_plans.proofs.held_timetable.HeldTimetable.begin_again.Goals as goal

pub begin_from-requires-clause-least : goal.begin_from-requires-clause-least
begin_from-requires-clause-least c =
    let was = subst (IsRoomOf c.args.net.now) (sym c.self.view_is) c.requires in
    known_given c.args.net.now c.self.inside.kept c.self.inside.first c.held.result.now c.times.result.now c.held.ensures c.times.ensures was.first

pub returns-clause-timetable : goal.returns-clause-timetable
returns-clause-timetable c =
    let was = subst (IsRoomOf c.args.net.now) (sym c.self.view_is) c.requires in
    record {
      timetable = c.begin_from.ensures.timetable;
      first = still_known c.args.net.now c.self.inside.kept c.begin_from.new.self c.self.inside.first c.begin_from.ensures.keeps was.first;
    }
