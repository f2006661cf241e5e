use Rattle.std.proofs.Common.{arith}
use Rattle.dm_rows.proofs.PairEnds.{small_is_event, large_is_event}
use Rattle.dm_rows.proofs.choices.is_free_pair.Goals as goal

pub ahead-requires : goal.ahead-requires
ahead-requires c =
    rw c.pair-pair.ensures
    (let below = small_is_event c.args.net.now c.reveal.ensures.network c.args.p c.requires.is_pair in
    let size = c.requires.sized.passed in omega arith)

pub ahead-requires-then-ahead : goal.ahead-requires-then-ahead
ahead-requires-then-ahead c =
    rw c.pair-pair.ensures
    (let below = large_is_event c.args.net.now c.reveal.ensures.network c.args.p c.requires.is_pair in
    let size = c.requires.sized.passed in omega arith)
