use Rattle.dm_network.proofs.TwoWay.{common_are_two_way, two_way_in_order}
use Rattle.dm_network.proofs.pairing.pairs_of.Goals as goal

pub returns-clause-two_way : goal.returns-clause-two_way
returns-clause-two_way c =
    common_are_two_way c.args.activities.now
    c.in_ok-upward.field-0.items c.in_ok-upward-2.upward.items c.in_ok-downward.field-0.items c.in_ok-downward-2.downward.items c.in_ok-pairs.pairs.items
    c.in_ok-upward.ensures c.in_ok-upward-2.ensures.same c.in_ok-downward.ensures c.in_ok-downward-2.ensures.same
    (rw (← c.deref.ensures.value, ← c.deref-2.ensures.value) c.in_ok-pairs.ensures.common)

pub returns-clause-in_order : goal.returns-clause-in_order
returns-clause-in_order c = two_way_in_order c.args.activities.now c.in_ok-pairs.pairs.items c.in_ok-pairs.ensures.in_order (returns-clause-two_way c)
