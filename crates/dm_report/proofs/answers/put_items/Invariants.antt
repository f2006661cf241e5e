use Rattle.std.proofs.Common.{take}
use Rattle.std.specs.List.{flat_map}
use Rattle.dm_outside.specs.Printing.{Gathers}
use Rattle.dm_cert.specs.RunTexts.{item_text}
use Rattle.dm_report.proofs.answers.put_items.Given as goal

abbrev pub invariant-loop-item : goal.invariant-loop-item
invariant-loop-item g l =
    Gathers g.K.Sink.taken g.K.Sink.faults l.fn.sink l.sink l.fn.page l.page (flat_map (item_text 2) (take l.item-index l.items))
