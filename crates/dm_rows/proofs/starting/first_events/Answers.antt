use Rattle.std.proofs.Common.{refl, arith}
use Rattle.dm_network.specs.Start.{starts_small_first}
use Rattle.dm_rows.specs.Inside.Standings.{decided_at_start}
use Rattle.dm_rows.proofs.PairEnds.{small_is_event, large_is_event}
use Rattle.dm_rows.proofs.StartDelays.{one_more_item}
use Rattle.dm_rows.proofs.starting.first_events.Goals as goal

pub event-requires : goal.event-requires
event-requires c = rw c.pair-pair.ensures (small_is_event c.args.net.now c.reveal.ensures.network c.loop-p.p (omega arith))

pub event-requires-in-loop-p : goal.event-requires-in-loop-p
event-requires-in-loop-p c = rw c.pair-pair.ensures (large_is_event c.args.net.now c.reveal.ensures.network c.loop-p.p (omega arith))

pub loop-p-preserved : goal.loop-p-preserved
loop-p-preserved c =
    rw (c.in_ok-push.ensures.items, c.free.ensures, c.event.ensures, c.event-in-loop-p.ensures, c.pair-pair.ensures)
    (one_more_item (λ p. decided_at_start (starts_small_first c.args.net.now p)) c.loop-p.pairs.items c.loop-p.p _ c.loop-p.invariant refl)
