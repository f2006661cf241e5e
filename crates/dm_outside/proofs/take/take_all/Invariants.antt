use Rattle.std.proofs.Common.{◌+◌, ◌-◌, vec_len}
use Rattle.dm_outside.proofs.Taking.{Taking}
use Rattle.dm_outside.proofs.take.take_all.Given as goal

abbrev pub invariant-loop-bytes : goal.invariant-loop-bytes
invariant-loop-bytes g l = Taking g.S.Source.left g.S.Source.faults g.S.Source.is_sound l.fn.source l.source l.bytes.items l.limit (vec_len l.piece)

abbrev pub decreases-loop-bytes : goal.decreases-loop-bytes
decreases-loop-bytes g l = l.limit + 1 - vec_len l.bytes
