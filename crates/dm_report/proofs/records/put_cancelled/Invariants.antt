use Rattle.std.proofs.Common.{◌-◌, length}
use Rattle.std.specs.List.{flat_map, range_with_len}
use Rattle.dm_report.specs.Printed.{mark_text, cancelled_text}
use Rattle.dm_report.proofs.Printed.{PrintedTo}
use Rattle.dm_report.proofs.records.put_cancelled.Given as goal

abbrev pub invariant-loop-i : goal.invariant-loop-i
invariant-loop-i g l =
    PrintedTo g.K.Sink.taken g.K.Sink.faults l.fn.sink l.sink l.fn.page l.page (cancelled_text l.net l.rows)
    (flat_map (mark_text l.net l.rows) (range_with_len l.i (length l.net.events - l.i)))
