use Rattle.dm_rows.proofs.PairEnds.{small_is_event, large_is_event}
use Rattle.dm_stretch.proofs.standing.is_pair_within.Goals as goal

pub event-requires : goal.event-requires
event-requires c = rw c.pair-pair.ensures (small_is_event c.args.net.now c.reveal.ensures.network c.args.p c.requires)

pub event-requires-then-is_within : goal.event-requires-then-is_within
event-requires-then-is_within c = rw c.pair-pair.ensures (large_is_event c.args.net.now c.reveal.ensures.network c.args.p c.requires)
