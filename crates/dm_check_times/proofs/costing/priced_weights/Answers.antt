use Rattle.std.proofs.Common.{arith, ◌<◌, ◌*◌, length}
use Rattle.dm_base.specs.declared.limits.TheConstants.{WEIGHT}
use Rattle.dm_rows.specs.Cost.{is_lost_change}
use Rattle.dm_check_times.specs.KeptCosts.{priced_weight}
use Rattle.dm_rows.proofs.Totals.{total_next}
use Rattle.dm_check_times.proofs.costing.priced_weights.Goals as goal

pub loop-a-preserved : goal.loop-a-preserved
loop-a-preserved c =
    let below : c.loop-a.a < length c.args.net.now.activities = omega (arith, c.loop-a-test.true, c.activities-a-end.ensures.count) in
    total_next (priced_weight c.args.net.now c.args.rows.now (is_lost_change c.args.net.now c.args.rows.now) c.args.times.now) (length c.args.net.now.activities) (2 * WEIGHT) c.loop-a.a c.loop-a.total c.priced_weight.result below
    c.priced_weight.ensures.limit c.priced_weight.ensures.weight c.loop-a.invariant
