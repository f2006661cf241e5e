use Rattle.dm_part_workers.specs.Inside.Handing.{IsHand}
use Rattle.dm_part_workers.proofs.working.work.Given as goal

abbrev pub invariant-loop-try : goal.invariant-loop-try
invariant-loop-try l = IsHand l.thief l.hand
