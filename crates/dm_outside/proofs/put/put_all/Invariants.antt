use Rattle.std.proofs.Common.{[], length}
use Rattle.dm_outside.specs.Printing.{Gathers}
use Rattle.dm_outside.proofs.put.put_all.Given as goal

abbrev pub invariant-loop-rest : goal.invariant-loop-rest
invariant-loop-rest g l = Gathers g.K.Sink.taken g.K.Sink.faults l.fn.sink l.sink [] l.rest l.bytes

abbrev pub decreases-loop-rest : goal.decreases-loop-rest
decreases-loop-rest g l = length l.rest
