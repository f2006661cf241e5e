use Rattle.std.proofs.Common.{arith}
use Rattle.dm_rows.proofs.PairEnds.{small_is_event, large_is_event}
use Rattle.dm_relax.proofs.completing.goes_small_first.Goals as goal

pub time-requires : goal.time-requires
time-requires c =
    rw c.pair-pair.ensures
    (let below = small_is_event c.args.relaxation.now.net.now c.reveal.ensures.network c.args.p c.requires.is_pair in
    let size = c.requires.size in omega arith)

pub time-requires-then-index : goal.time-requires-then-index
time-requires-then-index c =
    rw c.pair-pair.ensures
    (let below = large_is_event c.args.relaxation.now.net.now c.reveal.ensures.network c.args.p c.requires.is_pair in
    let size = c.requires.size in omega arith)
