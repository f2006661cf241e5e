use Rattle.dm_network.proofs.EventRows.{leads_out}
use Rattle.std.proofs.Common.{arith, slice_index}
use Rattle.dm_order.proofs.reach.Reach.follow_all.Goals as goal

pub follow-requires-clause-is_activity : goal.follow-requires-clause-is_activity
follow-requires-clause-is_activity g c =
    (leads_out c.args.net.now (slice_index c.args.ranked.now.order.now c.args.at) c.loop-a.a-index c.out_row-a-items.result.now c.out_row-a-items.ensures.places (omega arith)).is_activity
