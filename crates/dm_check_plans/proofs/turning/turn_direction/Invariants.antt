use Rattle.std.proofs.Common.{◌≡◌}
use Rattle.dm_check_plans.specs.Inside.Moves.{HasTurned}
use Rattle.dm_check_plans.specs.Inside.Timetables.{IsTimetableOf, KeepsSpans}
use Rattle.dm_check_plans.proofs.turning.turn_direction.Given as goal

abbrev pub invariant-loop-a : goal.invariant-loop-a
invariant-loop-a l = record {
  turned : HasTurned l.net l.pair l.row l.a-index l.value l.initial.timetable.kept.held l.timetable.kept.held;
  timetable : IsTimetableOf l.net l.timetable;
  keeps : KeepsSpans l.initial.timetable l.timetable;
  times : l.timetable.kept.times ≡ l.initial.timetable.kept.times;
}
