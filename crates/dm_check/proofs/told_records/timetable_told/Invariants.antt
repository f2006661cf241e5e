use Rattle.dm_check.proofs.Timetabled.{HasTimed}
use Rattle.dm_check.proofs.told_records.timetable_told.Given as goal

abbrev pub invariant-loop-i : goal.invariant-loop-i
invariant-loop-i l = HasTimed l.setting.net.now l.checked.rows l.initial.lines l.lines l.i
