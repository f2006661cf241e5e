use Rattle.std.proofs.Common.{arith, ◌<◌, length}
use Rattle.dm_base.specs.declared.limits.TheConstants.{WEIGHT}
use Rattle.dm_rows.specs.Cost.{cancelled_weight}
use Rattle.dm_rows.proofs.Totals.{total_next}
use Rattle.dm_check_times.proofs.costing.cancelled_weights.Goals as goal

pub loop-i-preserved : goal.loop-i-preserved
loop-i-preserved c =
    let below : c.loop-i.i < length c.args.net.now.events = omega (arith, c.loop-i-test.true, c.events-i-end.ensures.count) in
    total_next (cancelled_weight c.args.net.now c.args.rows.now) (length c.args.net.now.events) WEIGHT c.loop-i.i c.loop-i.total c.cancelled_weight.result below
    c.cancelled_weight.ensures.limit c.cancelled_weight.ensures.weight c.loop-i.invariant
