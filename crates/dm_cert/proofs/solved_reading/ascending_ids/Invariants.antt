use Rattle.std.proofs.Common.{length}
use Rattle.dm_cert.proofs.IdsRead.{IdsSoFar}
use Rattle.dm_cert.proofs.solved_reading.ascending_ids.Given as goal

abbrev pub invariant-loop-id : goal.invariant-loop-id
invariant-loop-id l = IdsSoFar l.bytes l.rest l.ids.items l.least

abbrev pub decreases-loop-id : goal.decreases-loop-id
decreases-loop-id l = length l.rest
