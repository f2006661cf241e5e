use Rattle.std.proofs.Common.{arith}
use Rattle.dm_base.specs.declared.ids.ActId.{ActId}
use Rattle.dm_network.specs.Net.{activity_place}
use Rattle.dm_rows.specs.Cost.{missed_weight}
use Rattle.dm_parts.specs.Sums.{at_place}
use Rattle.dm_part_plans.proofs.Leaves.{sum_more}
use Rattle.dm_part_plans.proofs.costing.missed.Goals as goal

pub loop-id-preserved : goal.loop-id-preserved
loop-id-preserved c =
    let before = c.loop-id.invariant.low in
    let here = c.missed_of-sum.ensures.limit in
    record {
      sum = sum_more (λ (id : ActId). at_place (missed_weight c.args.net.now c.args.rows.now c.args.times.now) (activity_place c.args.net.now id)) c.args.share.now.changes c.as_slice-id-items.result.now c.loop-id.id-index _ _ _
          c.as_slice-id-items.ensures c.loop-id-test.true c.loop-id.invariant.sum c.missed_of-sum.ensures.weight;
      low = omega (arith, before, here);
    }
