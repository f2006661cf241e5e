use Rattle.std.proofs.Common.{length}
use Rattle.dm_records.specs.Inside.Answers.{IdsSoFar}
use Rattle.dm_records.proofs.answers.ids_of.Given as goal

abbrev pub invariant-loop-id : goal.invariant-loop-id
invariant-loop-id l = IdsSoFar l.bytes l.rest l.ids.items

abbrev pub decreases-loop-id : goal.decreases-loop-id
decreases-loop-id l = length l.rest
