use Rattle.std.proofs.Common.{◌+◌, drop}
use Rattle.dm_report.proofs.Printed.{PrintedTo}
use Rattle.dm_tape.specs.Rounds.{parts_text}
use Rattle.dm_tape.proofs.printing.put_round.Given as goal

abbrev pub invariant-loop-i : goal.invariant-loop-i
invariant-loop-i g l =
    PrintedTo g.K.Sink.taken g.K.Sink.faults l.fn.sink l.sink l.fn.page l.page (parts_text 1 l.round) (parts_text (l.i + 1) (drop l.i l.round))
