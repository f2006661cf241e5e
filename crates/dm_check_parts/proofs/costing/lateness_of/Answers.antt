use Rattle.std.proofs.Common.{◌*◌, ◌^◌}
use Rattle.dm_base.specs.declared.ids.EventId.{EventId}
use Rattle.dm_base.specs.declared.limits.TheConstants.{WEIGHT}
use Rattle.dm_network.specs.Net.{event_place}
use Rattle.dm_rows.specs.Cost.{event_cost}
use Rattle.dm_parts.specs.Sums.{at_place}
use Rattle.dm_check_parts.proofs.Summed.{sum_next, sum_all}
use Rattle.dm_check_parts.proofs.costing.lateness_of.Goals as goal

pub loop-id-preserved : goal.loop-id-preserved
loop-id-preserved c =
    sum_next (λ (id : EventId). at_place (event_cost c.args.net.now c.args.rows.now c.args.times.now) (event_place c.args.net.now id)) c.args.ids.now (WEIGHT * 2 ^ 38) c.loop-id.id-index c.loop-id.total c.lateness_at-total.result _
    c.loop-id-test.true c.lateness_at-total.ensures.cost c.lateness_at-total.ensures.limit c.loop-id.invariant

pub returns-clause-cost : goal.returns-clause-cost
returns-clause-cost c =
    sum_all (λ (id : EventId). at_place (event_cost c.args.net.now c.args.rows.now c.args.times.now) (event_place c.args.net.now id)) c.args.ids.now (WEIGHT * 2 ^ 38) c.loop-id.id-index c.loop-id.total
    c.loop-id-test.false c.loop-id.invariant
