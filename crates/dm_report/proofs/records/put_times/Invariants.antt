use Rattle.std.proofs.Common.{◌-◌, length}
use Rattle.std.specs.List.{flat_map, range_with_len}
use Rattle.dm_cert.specs.RunTexts.{time_text, timetable_text}
use Rattle.dm_report.proofs.Printed.{PrintedTo}
use Rattle.dm_report.proofs.records.put_times.Given as goal

abbrev pub invariant-loop-i : goal.invariant-loop-i
invariant-loop-i g l =
    PrintedTo g.K.Sink.taken g.K.Sink.faults l.fn.sink l.sink l.fn.page l.page (timetable_text l.net l.times)
    (flat_map (time_text l.net l.times) (range_with_len l.i (length l.net.events - l.i)))
