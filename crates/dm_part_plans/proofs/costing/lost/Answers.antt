use Rattle.std.proofs.Common.{arith}
use Rattle.dm_part_plans.specs.Inside.Sums.{lost_weight}
use Rattle.dm_part_plans.proofs.Leaves.{sum_more}
use Rattle.dm_part_plans.proofs.costing.lost.Goals as goal

pub loop-id-preserved : goal.loop-id-preserved
loop-id-preserved c =
    let before = c.loop-id.invariant.low in
    let here = c.lost_of-sum.ensures.limit in
    record {
      sum = sum_more (lost_weight c.args.net.now c.args.rows.now c.args.path.now) c.args.share.now.changes c.as_slice-id-items.result.now c.loop-id.id-index _ _ _
          c.as_slice-id-items.ensures c.loop-id-test.true c.loop-id.invariant.sum c.lost_of-sum.ensures.weight;
      low = omega (arith, before, here);
    }
