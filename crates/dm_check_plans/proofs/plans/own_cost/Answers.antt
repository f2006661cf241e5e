use Rattle.dm_rows.specs.Active.{is_active}
use Rattle.dm_rows.proofs.AsGraph.{active_enter_no_passed}
use Rattle.dm_rows.proofs.Holding.{held_is_met_exactly_without_cycle}
use Rattle.dm_check_plans.proofs.plans.own_cost.Goals as goal

pub returns-in-Err : goal.returns-in-Err
returns-in-Err c = λ cost costs.
    let net = c.args.net.now in
    let rows = c.args.rows.now in
    c.in-Err.ensures.cyclic
    ((held_is_met_exactly_without_cycle net rows (is_active net rows) c.reveal.ensures.network (active_enter_no_passed net rows)).0 (costs.times, costs.least.meets))
