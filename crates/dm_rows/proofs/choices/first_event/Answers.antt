use Rattle.dm_rows.proofs.PairEnds.{small_is_event, large_is_event}
use Rattle.dm_rows.proofs.choices.first_event.Goals as goal

pub returns-then-small-clause-is_event : goal.returns-then-small-clause-is_event
returns-then-small-clause-is_event c = rw c.pair-pair.ensures (small_is_event c.args.net.now c.reveal.ensures.network c.args.pair c.requires)

pub returns-else-small-clause-is_event : goal.returns-else-small-clause-is_event
returns-else-small-clause-is_event c = rw c.pair-pair.ensures (large_is_event c.args.net.now c.reveal.ensures.network c.args.pair c.requires)
