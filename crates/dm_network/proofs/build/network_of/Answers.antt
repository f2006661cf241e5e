-- The arrays of events and activities stand beside the network that they make with the pairs.
use Rattle.std.proofs.Common.{subst, []}
use Rattle.dm_network.specs.Inside.Stages.{StandBeside, net_with}
use Rattle.dm_network.proofs.Arraying.{stand_beside_same}
use Rattle.dm_network.proofs.build.network_of.Goals as goal

pub start_cycle-requires-clause-arrays : goal.start_cycle-requires-clause-arrays
start_cycle-requires-clause-arrays c =
    rw (c.deref-3.ensures.value, c.deref-4.ensures.value, c.deref-5.ensures.value)
    (stand_beside_same c.args.formed.events.items c.args.formed.activities.items c.args.formed.pairs.items c.in_ok-arrays.arrays
    (subst (λ activities. StandBeside (net_with c.args.formed.events.items activities []) c.in_ok-arrays.arrays) c.deref-2.ensures.value
    (subst (λ events. StandBeside (net_with events c.deref-2.result.now []) c.in_ok-arrays.arrays) c.deref.ensures.value c.in_ok-arrays.ensures)))

pub assembled-requires-clause-arrays : goal.assembled-requires-clause-arrays
assembled-requires-clause-arrays c =
    stand_beside_same c.args.formed.events.items c.args.formed.activities.items c.args.formed.pairs.items c.in_ok-arrays.arrays
    (subst (λ activities. StandBeside (net_with c.args.formed.events.items activities []) c.in_ok-arrays.arrays) c.deref-2.ensures.value
    (subst (λ events. StandBeside (net_with events c.deref-2.result.now []) c.in_ok-arrays.arrays) c.deref.ensures.value c.in_ok-arrays.ensures))
