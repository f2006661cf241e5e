use Rattle.dm_check_times.specs.Inside.Agreeing.{Renews, Nowhere, InRow}
use Rattle.dm_check_times.specs.Timetables.{IsTimetableOf}
use Rattle.dm_check_times.proofs.keeping.renew_row.Given as goal

abbrev pub invariant-loop-a : goal.invariant-loop-a
invariant-loop-a l = record {
  timetable : IsTimetableOf l.net l.timetable;
  renews : Renews l.net l.rows Nowhere (InRow l.row l.a-index) l.initial.timetable l.timetable;
}
