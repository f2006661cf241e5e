use Rattle.std.proofs.Common.{take}
use Rattle.dm_outside.specs.Printing.{Gathers, pieces_text}
use Rattle.dm_outside.proofs.page.Page.put.Given as goal

abbrev pub invariant-loop-piece : goal.invariant-loop-piece
invariant-loop-piece g l =
    Gathers g.K.Sink.taken g.K.Sink.faults l.fn.sink l.sink l.fn.self l.self (pieces_text (take l.piece-index l.pieces))
