use Rattle.dm_order.specs.Orders.{is_ordered}
use Rattle.dm_rows.proofs.StartDelays.{one_more_item}
use Rattle.dm_order.proofs.order.ordered_activities.Goals as goal

pub loop-a-preserved : goal.loop-a-preserved
loop-a-preserved c =
    rw c.in_ok-push.ensures.items
    (one_more_item (is_ordered c.args.net.now c.args.rows.now) c.loop-a.held.items c.loop-a.a _ c.loop-a.invariant c.is_ordered.ensures)
