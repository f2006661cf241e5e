use Rattle.dm_task.specs.Tasks.{task_of}
use Rattle.dm_traverse.proofs.Beside.{beside_is_task}
use Rattle.dm_part_plans.proofs.Judged.{branch_there, leaf_there}
use Rattle.dm_part_plans.proofs.judging.node_at.Goals as goal

pub returns-in-Some-Inner-clause-node : goal.returns-in-Some-Inner-clause-node
returns-in-Some-Inner-clause-node c =
    let t = c.args.task.now in
    branch_there (task_of t) (beside_is_task t.net.now t.rows.now t.penalty t.base.now t.budget c.reveal.ensures.network c.requires.posed)
    c.walk.new.evaluator c.walk.ensures.evaluator c.args.path.now c.in-Ok.ensures.there c.in-Some-Inner.choice (c.is_open.ensures.0 c.if-is_open.true)

pub returns-in_default-found-clause-node : goal.returns-in_default-found-clause-node
returns-in_default-found-clause-node c =
    let t = c.args.task.now in
    leaf_there (task_of t) (beside_is_task t.net.now t.rows.now t.penalty t.base.now t.budget c.reveal.ensures.network c.requires.posed)
    c.walk.new.evaluator c.walk.ensures.evaluator c.args.path.now c.in-Ok.ensures.there c.args.share.now c.cost_within.result c.cost_within.ensures.costs
