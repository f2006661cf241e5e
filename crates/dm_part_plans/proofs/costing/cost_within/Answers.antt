use Rattle.dm_part_plans.proofs.Leaves.{cost_here, costs_there}
use Rattle.dm_part_plans.proofs.costing.cost_within.Goals as goal

pub returns-clause-cost : goal.returns-clause-cost
returns-clause-cost c =
    cost_here c.args.net.now c.reveal.ensures.network c.args.evaluator.now c.requires.evaluator c.args.share.now c.requires.share
    c.times-times.result.now c.path.result.now c.rows-rows.result.now c.args.penalty c.lateness-late.result c.cancelled-cancelled.result
    c.lost-lost.result c.missed-missed.result c.times-times.ensures c.path.ensures c.rows-rows.ensures c.lateness-late.ensures.cost
    c.cancelled-cancelled.ensures.weight c.lost-lost.ensures.weight c.missed-missed.ensures.weight

pub returns-clause-costs : goal.returns-clause-costs
returns-clause-costs c =
    costs_there c.args.net.now c.reveal.ensures.network c.args.evaluator.now c.requires.evaluator c.args.share.now c.args.penalty _ (returns-clause-cost c)
