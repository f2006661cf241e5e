use Rattle.std.proofs.Common.{◌+◌, ◌-◌, vec_len}
use Rattle.dm_base.specs.declared.limits.TheConstants.{TEXT}
use Rattle.dm_journal.proofs.Followed.{Following}
use Rattle.dm_journal.proofs.reading.follow_source.Given as goal

abbrev pub invariant-loop-count : goal.invariant-loop-count
invariant-loop-count g l =
    Following g.S.Source.left g.S.Source.is_sound l.fn.source l.source l.fn.follower l.follower l.broken l.count (vec_len l.piece)

abbrev pub decreases-loop-count : goal.decreases-loop-count
decreases-loop-count g l = TEXT + 1 - l.count
