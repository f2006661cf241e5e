use Rattle.std.proofs.Common.{arith}
use Rattle.dm_base.specs.declared.ids.EventId.{EventId}
use Rattle.dm_network.specs.Net.{event_place}
use Rattle.dm_rows.specs.Cost.{event_cost}
use Rattle.dm_parts.specs.Sums.{at_place}
use Rattle.dm_part_plans.proofs.Leaves.{sum_more}
use Rattle.dm_part_plans.proofs.costing.lateness.Goals as goal

pub loop-id-preserved : goal.loop-id-preserved
loop-id-preserved c =
    let before = c.loop-id.invariant.low in
    let here = c.lateness_of-sum.ensures.limit in
    record {
      sum = sum_more (λ (id : EventId). at_place (event_cost c.args.net.now c.args.rows.now c.args.times.now) (event_place c.args.net.now id)) c.args.share.now.arrivals c.as_slice-id-items.result.now c.loop-id.id-index _ _ _
          c.as_slice-id-items.ensures c.loop-id-test.true c.loop-id.invariant.sum c.lateness_of-sum.ensures.cost;
      low = omega (arith, before, here);
    }
