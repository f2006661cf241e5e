use Rattle.dm_part_workers.proofs.Emptying.{IsTaking}
use Rattle.dm_part_workers.proofs.handing.take_rest.Given as goal

abbrev pub invariant-loop-job : goal.invariant-loop-job
invariant-loop-job l = IsTaking l.initial.owner l.owner l.initial.back.items l.back.items l._job
