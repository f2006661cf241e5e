use Rattle.dm_check_times.specs.Inside.Agreeing.{Renews, Nowhere, Below}
use Rattle.dm_check_times.specs.Timetables.{IsTimetableOf}
use Rattle.dm_check_times.proofs.keeping.renew_all.Given as goal

abbrev pub invariant-loop-event : goal.invariant-loop-event
invariant-loop-event l = record {
  timetable : IsTimetableOf l.net l.timetable;
  renews : Renews l.net l.rows (Below l.event) Nowhere l.initial.timetable l.timetable;
}
