use Rattle.std.proofs.Common.{length}
use Rattle.dm_follow.proofs.Taken.{HasTaken}
use Rattle.dm_follow.proofs.follower.feed_lines.Given as goal

abbrev pub invariant-loop-end : goal.invariant-loop-end
invariant-loop-end l = HasTaken l.initial.follower l.follower l.piece l.rest

abbrev pub decreases-loop-end : goal.decreases-loop-end
decreases-loop-end l = length l.rest
