use Rattle.dm_task.specs.Tasks.{task_of}
use Rattle.dm_part_plans.proofs.solving.plan_of_parts.Goals as goal

pub returns-clause-parts : goal.returns-clause-parts
returns-clause-parts c =
    c.put_together.ensures.parts (task_of c.args.task.now) c.in_ok-chosen.ensures.chosen c.in_ok-gathered.ensures.gathered c.in_ok-rest.ensures.rest
