use Rattle.std.proofs.Common.{take}
use Rattle.std.specs.List.{flat_map}
use Rattle.dm_outside.specs.Printing.{Gathers}
use Rattle.dm_report.proofs.Printed.{with_label}
use Rattle.dm_report.proofs.words.put_labelled.Given as goal

abbrev pub invariant-loop-one : goal.invariant-loop-one
invariant-loop-one g l =
    Gathers g.K.Sink.taken g.K.Sink.faults l.fn.sink l.sink l.fn.page l.page (flat_map (with_label (λ one. one.0.now) (λ one. one.1)) (take l.one-index l.numbers))
