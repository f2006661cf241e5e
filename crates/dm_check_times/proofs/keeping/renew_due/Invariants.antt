use Rattle.dm_check_times.specs.Inside.Agreeing.{MovesAmong}
use Rattle.dm_check_times.specs.Timetables.{IsTimetableOf}
use Rattle.dm_check_times.proofs.keeping.renew_due.Given as goal

abbrev pub invariant-loop-scheduled : goal.invariant-loop-scheduled
invariant-loop-scheduled l = record {
  timetable : IsTimetableOf l.net l.timetable;
  moves : MovesAmong l.net l.rows l.due l.scheduled-index l.initial.timetable l.timetable;
}
