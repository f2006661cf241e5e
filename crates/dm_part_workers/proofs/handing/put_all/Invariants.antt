use Rattle.dm_part_workers.proofs.Putting.{IsPutting}
use Rattle.dm_part_workers.proofs.handing.put_all.Given as goal

abbrev pub invariant-loop-job : goal.invariant-loop-job
invariant-loop-job l = IsPutting l.initial.owner l.owner l.fn.jobs.items l.job-iterator.rest.items
