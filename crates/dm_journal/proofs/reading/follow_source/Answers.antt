use Rattle.std.proofs.Common.{◌+◌, ◌≤◌, arith, length-take}
use Rattle.dm_base.specs.declared.limits.TheConstants.{TEXT}
use Rattle.dm_journal.proofs.Followed.{followed_all, followed_long, following_more, following_none}
use Rattle.dm_journal.proofs.reading.follow_source.Goals as goal
use Rattle.dm_journal.proofs.reading.follow_source.Goals.{then-room-lt-PIECE, else-room-lt-PIECE}

pub loop-count-init : goal.loop-count-init
loop-count-init g c = following_none g.S.Source.left g.S.Source.is_sound c.args.source.now c.args.follower.now _ c.in-Ok.ensures

pub returns-in-Ok-eq0 : goal.returns-in-Ok-eq0
returns-in-Ok-eq0 g c =
    followed_all g.S.Source.left g.S.Source.is_sound _ _ _ _ _ _ _ _ _ _ _ c.loop-count.invariant c.in-Ok-eq0.ensures.ok c.in-Ok-eq0.ensures.stays_sound
    (omega (arith, c.in-Ok-eq0.field-0-is)) (omega (arith, c.loop-count-test.true))

-- the piece that was asked for reaches at most one byte above the limit
pub loop-count-preserved : goal.loop-count-preserved
loop-count-preserved g c =
    let cut = length-take c.if-room-lt-PIECE.want c.deref_mut.result.now in
    let fits : c.loop-count.count + c.in-Ok-follow_piece.taken ≤ TEXT + 1 =
    elim c.if-room-lt-PIECE.branch [ then-room-lt-PIECE w ↦ omega (arith, cut, c.in-Ok-follow_piece.ensures.short) | else-room-lt-PIECE w ↦ omega (arith, cut, c.in-Ok-follow_piece.ensures.short) ] in
    following_more g.S.Source.left g.S.Source.is_sound _ _ _ _ _ _ _ _ _ _ _ c.loop-count.invariant c.in-Ok-follow_piece.ensures.ok c.in-Ok-follow_piece.ensures.stays_sound fits

pub returns : goal.returns
returns g c = followed_long g.S.Source.left g.S.Source.is_sound _ _ _ _ _ _ _ c.loop-count.invariant (omega (arith, c.loop-count-test.false))
