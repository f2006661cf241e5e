use Rattle.std.proofs.Common.{arith, length, slice_index}
use Rattle.dm_graph.specs.Arcs.{IsOrder}
use Rattle.dm_graph.specs.Arrays.{AreRanks}
use Rattle.dm_network.specs.Held.{arcs_of, is_held}
use Rattle.dm_journey.proofs.Reached.{has_reached_next, has_reached_all}
use Rattle.dm_journey.proofs.reaching.reach_all_with.Goals as goal

pub loop-place-preserved : goal.loop-place-preserved
loop-place-preserved g c =
    let ranked : AreRanks (length c.args.net.now.events) c.order-order.result.now c.args.search.now.ranks = rw c.order-order.ensures c.requires.ranks in
    let is_order : IsOrder (arcs_of c.args.net.now (is_held c.args.usable.now)) c.order-order.result.now = rw c.order-order.ensures c.requires.order in
    let count = c.events-place-end.ensures.count in
    has_reached_next c.args.net.now c.args.usable.now c.order-order.result.now c.args.search.now.ranks c.args.most c.args.reached.now c.loop-place.reached
    c.loop-place.place ranked is_order c.events-place-end.ensures.network.formed.ends_are_known c.requires.as_many (omega arith) c.loop-place.invariant
    c.in_row-into.result.now c.reach_along.result c.in_row-into.ensures.places
    (c.requires.beginnings (slice_index c.order-order.result.now c.loop-place.place) (ranked.is_event c.loop-place.place (omega arith)))
    c.reach_along.ensures.comes c.reach_along.ensures.along

pub returns : goal.returns
returns g c =
    has_reached_all c.args.net.now c.args.usable.now c.args.search.now.order c.args.search.now.ranks c.args.most c.args.reached.now c.loop-place.reached c.loop-place.place
    c.requires.ranks c.requires.as_many (let count = c.events-place-end.ensures.count in omega arith) c.loop-place.invariant
