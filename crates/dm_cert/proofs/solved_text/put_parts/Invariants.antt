use Rattle.std.proofs.Common.{take, All}
use Rattle.std.specs.List.{flat_map}
use Rattle.dm_outside.specs.Printing.{Gathers}
use Rattle.dm_cert.specs.SolvedTexts.{part_text, FitsPart}
use Rattle.dm_cert.proofs.solved_text.put_parts.Given as goal

abbrev pub invariant-loop-part : goal.invariant-loop-part
invariant-loop-part g l =
    Gathers g.K.Sink.taken g.K.Sink.faults l.fn.sink l.sink l.fn.page l.page (flat_map part_text (take l.part-index l.parts))
    × All FitsPart (take l.part-index l.parts)
