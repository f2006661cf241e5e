use Rattle.std.proofs.Common.{length}
use Rattle.dm_restore.proofs.Files.{HasCounted}
use Rattle.dm_restore.proofs.logs.count_blocks.Given as goal

abbrev pub invariant-loop-more : goal.invariant-loop-more
invariant-loop-more l = HasCounted l.file l.rest l.count

abbrev pub decreases-loop-more : goal.decreases-loop-more
decreases-loop-more l = length l.rest
