use Rattle.std.proofs.Common.{◌+◌, drop}
use Rattle.dm_cert.specs.RunTexts.{logs_text}
use Rattle.dm_report.proofs.Printed.{PrintedTo}
use Rattle.dm_report.proofs.answers.put_logs.Given as goal

abbrev pub invariant-loop-i : goal.invariant-loop-i
invariant-loop-i g l =
    PrintedTo g.K.Sink.taken g.K.Sink.faults l.fn.sink l.sink l.fn.page l.page (logs_text 2 1 l.logs) (logs_text 2 (l.i + 1) (drop l.i l.logs))
