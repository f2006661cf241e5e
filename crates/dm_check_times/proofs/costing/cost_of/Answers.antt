use Rattle.std.proofs.Common.{refl}
use Rattle.dm_rows.specs.Cost.{is_lost_change}
use Rattle.dm_check_times.proofs.Kept.{cost_in_parts}
use Rattle.dm_check_times.proofs.costing.cost_of.Goals as goal

pub returns : goal.returns
returns c =
    cost_in_parts c.args.net.now c.args.rows.now (is_lost_change c.args.net.now c.args.rows.now) c.args.times.now c.args.penalty _ _ _ _ c.lateness_cost.ensures.cost
    c.cancelled_weights.ensures.weights c.priced_weights.ensures.weights refl
