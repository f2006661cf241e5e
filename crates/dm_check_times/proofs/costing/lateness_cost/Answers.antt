use Rattle.std.proofs.Common.{arith, ◌<◌, length, ◌*◌, ◌^◌}
use Rattle.dm_base.specs.declared.limits.TheConstants.{WEIGHT}
use Rattle.dm_rows.specs.Cost.{event_cost}
use Rattle.dm_rows.proofs.Totals.{total_next}
use Rattle.dm_check_times.proofs.costing.lateness_cost.Goals as goal

pub loop-i-preserved : goal.loop-i-preserved
loop-i-preserved c =
    let below : c.loop-i.i < length c.args.net.now.events = omega (arith, c.loop-i-test.true, c.events-i-end.ensures.count) in
    total_next (event_cost c.args.net.now c.args.rows.now c.args.times.now) (length c.args.net.now.events) (WEIGHT * 2 ^ 38) c.loop-i.i c.loop-i.total c.event_cost-total.result below
    c.event_cost-total.ensures.limit c.event_cost-total.ensures.cost c.loop-i.invariant
