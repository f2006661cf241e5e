use Rattle.std.proofs.Common.{arith, ◌+◌, ◌≤◌, length, length-take, take}
use Rattle.dm_outside.proofs.Taking.{taking_lost}
use Rattle.dm_outside.proofs.take.take_all.Goals as goal
use Rattle.dm_outside.proofs.take.take_all.Goals.{then-room-lt-PIECE, else-room-lt-PIECE}

-- the piece that was asked for reaches at most one byte above the limit
pub returns-in-Err-clause-err : goal.returns-in-Err-clause-err
returns-in-Err-clause-err g c =
    let cut = length-take c.if-room-lt-PIECE.want c.deref_mut.result.now in
    let fits : length c.loop-bytes.bytes.items + length (take c.if-room-lt-PIECE.want c.deref_mut.result.now) ≤ c.args.limit + 1 =
    elim c.if-room-lt-PIECE.branch [ then-room-lt-PIECE w ↦ omega arith | else-room-lt-PIECE w ↦ omega arith ]
    in taking_lost c.loop-bytes.invariant c.in-Err.ensures.err fits
