use Rattle.dm_rows.proofs.PairEnds.{small_is_event, large_is_event}
use Rattle.dm_rows.proofs.choices.choice_of_pair.Goals as goal

pub event-requires : goal.event-requires
event-requires c = rw c.pair-pair.ensures (small_is_event c.args.net.now c.reveal.ensures.network c.args.p c.requires)

pub event-requires-2 : goal.event-requires-2
event-requires-2 c = rw c.pair-pair.ensures (large_is_event c.args.net.now c.reveal.ensures.network c.args.p c.requires)
