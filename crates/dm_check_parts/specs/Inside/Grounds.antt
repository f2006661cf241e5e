-- What the nodes of a part are judged by, as one value.
use Rattle.dm_tree.specs.Plans.{Task, whole_task}
use Rattle.dm_check_parts.specs.declared.grounds.Grounds.{Grounds}

-- the task in which the nodes are judged
abbrev pub task_of : Grounds → Task
task_of grounds = whole_task grounds.net.now grounds.rows.now grounds.penalty grounds.budget
