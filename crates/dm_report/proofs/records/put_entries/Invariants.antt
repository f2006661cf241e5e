use Rattle.std.proofs.Common.{◌+◌, drop}
use Rattle.dm_cert.specs.RunTexts.{entries_text}
use Rattle.dm_report.proofs.Printed.{PrintedTo}
use Rattle.dm_report.proofs.records.put_entries.Given as goal

abbrev pub invariant-loop-i : goal.invariant-loop-i
invariant-loop-i g l =
    PrintedTo g.K.Sink.taken g.K.Sink.faults l.fn.sink l.sink l.fn.page l.page (entries_text 1 l.entries) (entries_text (l.i + 1) (drop l.i l.entries))
