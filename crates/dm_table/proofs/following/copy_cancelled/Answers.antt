use Rattle.std.proofs.Common.{◌<◌, length, arith}
use Rattle.dm_table.proofs.Followed.{copied_next, all_copied}
use Rattle.dm_table.proofs.following.copy_cancelled.Goals as goal

pub loop-place-preserved : goal.loop-place-preserved
loop-place-preserved c =
    let below : c.loop-place.place < length c.args.rows.now.cancelled = omega arith in
    copied_next c.args.rows.now.cancelled c.loop-place.into c.loop-place.place c.cancelled-is_cancelled.result c.loop-place.invariant below
    c.cancelled-is_cancelled.ensures.value

pub returns : goal.returns
returns c = all_copied c.args.rows.now.cancelled c.loop-place.into c.loop-place.place c.loop-place.invariant (omega arith)
