use Rattle.dm_task.specs.Tasks.{task_of}
use Rattle.dm_traverse.proofs.Beside.{beside_is_task}
use Rattle.dm_part_plans.proofs.OnePart.{enough_made}
use Rattle.dm_solve.proofs.solving.plan_by_workers.Goals as goal

pub returns-clause-enough : goal.returns-clause-enough
returns-clause-enough g c =
    let t = c.args.task.now in
    λ few enough.
    enough_made (task_of t) (beside_is_task t.net.now t.rows.now t.penalty t.base.now t.budget c.reveal.ensures.network c.requires.posed)
    c.args.plan.now c.requires.plan c.plan_of_parts.result c.plan_of_parts.ensures.parts c.plan_of_parts.ensures.no_dearer (c.plan_of_parts.ensures.no_lower few) enough
