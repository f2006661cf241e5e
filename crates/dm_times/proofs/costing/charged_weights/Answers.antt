use Rattle.std.proofs.Common.{arith, ◌<◌, length}
use Rattle.dm_base.specs.declared.limits.TheConstants.{WEIGHT}
use Rattle.dm_rows.specs.Cost.{charged_weight}
use Rattle.dm_rows.proofs.Totals.{total_next}
use Rattle.dm_times.proofs.costing.charged_weights.Goals as goal

pub loop-a-preserved : goal.loop-a-preserved
loop-a-preserved g c =
    let below : c.loop-a.a < length c.args.net.now.activities = omega (arith, c.loop-a-test.true, c.activities-a-end.ensures.count) in
    total_next (charged_weight c.args.net.now (g.C.Charging.charged c.args.charging.now)) (length c.args.net.now.activities) (WEIGHT) c.loop-a.a c.loop-a.total c.charged_weight.result below
    c.charged_weight.ensures.limit c.charged_weight.ensures.weight c.loop-a.invariant
