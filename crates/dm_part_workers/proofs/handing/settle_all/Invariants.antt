use Rattle.dm_part_workers.proofs.Settling.{IsSettling}
use Rattle.dm_part_workers.proofs.handing.settle_all.Given as goal

abbrev pub invariant-loop-hand : goal.invariant-loop-hand
invariant-loop-hand l = IsSettling l.initial.owner l.owner l.fn.hands.items l.hand-iterator.rest.items l.initial.back.items l.back.items
