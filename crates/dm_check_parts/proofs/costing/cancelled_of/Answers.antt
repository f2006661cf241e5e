use Rattle.dm_base.specs.declared.ids.EventId.{EventId}
use Rattle.dm_base.specs.declared.limits.TheConstants.{WEIGHT}
use Rattle.dm_network.specs.Net.{event_place}
use Rattle.dm_rows.specs.Cost.{cancelled_weight}
use Rattle.dm_parts.specs.Sums.{at_place}
use Rattle.dm_check_parts.proofs.Summed.{sum_next, sum_all}
use Rattle.dm_check_parts.proofs.costing.cancelled_of.Goals as goal

pub loop-id-preserved : goal.loop-id-preserved
loop-id-preserved c =
    sum_next (λ (id : EventId). at_place (cancelled_weight c.args.net.now c.args.rows.now) (event_place c.args.net.now id)) c.args.ids.now WEIGHT c.loop-id.id-index c.loop-id.total c.cancelled_at-total.result _
    c.loop-id-test.true c.cancelled_at-total.ensures.weight c.cancelled_at-total.ensures.limit c.loop-id.invariant

pub returns-clause-weights : goal.returns-clause-weights
returns-clause-weights c =
    sum_all (λ (id : EventId). at_place (cancelled_weight c.args.net.now c.args.rows.now) (event_place c.args.net.now id)) c.args.ids.now WEIGHT c.loop-id.id-index c.loop-id.total
    c.loop-id-test.false c.loop-id.invariant
