-- Of which task a plan is asked for, and which tasks may be posed.
use Rattle.dm_tree.specs.Plans.{Task as PlanTask}
use Rattle.dm_task.specs.declared.tasks.Task.{Task}
use Rattle.dm_task.specs.Posed.{task_beside, IsPosed}

abbrev pub task_of : Task → PlanTask
task_of t = task_beside t.net.now t.rows.now t.penalty t.base.now t.budget

abbrev pub IsPosedTask : Task → Type 0
IsPosedTask t = IsPosed t.net.now t.rows.now t.penalty t.base.now t.budget
