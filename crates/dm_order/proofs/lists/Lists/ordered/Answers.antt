use Rattle.dm_order.proofs.Forward.{order_is_forward}
use Rattle.dm_order.proofs.lists.Lists.ordered.Goals as goal

pub returns-in_ok-places-in-Ok-clause-forward : goal.returns-in_ok-places-in-Ok-clause-forward
returns-in_ok-places-in-Ok-clause-forward c =
    rw (c.in_ok-places-in-Ok.ensures.ranks, c.ranks.ensures)
    (order_is_forward c.args.net.now c.args.held.now c.search.new.search.order c.search.new.search.ranks
    c.reveal.ensures.network.formed.ends_are_known c.in-Ok.ensures.ranks c.in-Ok.ensures.order)
