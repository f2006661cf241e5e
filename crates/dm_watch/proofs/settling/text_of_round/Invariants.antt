use Rattle.std.proofs.Common.{◌+◌, drop}
use Rattle.dm_report.proofs.Printed.{PrintedTo}
use Rattle.dm_items.proofs.Texts.{taken, faults}
use Rattle.dm_watch.proofs.Texts.{feeds_text}
use Rattle.dm_watch.proofs.settling.text_of_round.Given as goal

abbrev pub invariant-loop-place : goal.invariant-loop-place
invariant-loop-place g l =
    PrintedTo taken faults l.initial.sink l.sink l.initial.page l.page (feeds_text 1 l.feeds) (feeds_text (l.place + 1) (drop l.place l.feeds))
