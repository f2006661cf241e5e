-- What the nodes of a plan are judged by, as one value.
use Rattle.std.specs.Prelude.{ℕ}
use Rattle.dm_tree.specs.Plans.{Task, whole_task}
use Rattle.dm_check_plans.specs.Inside.Visiting.{IsOwnCost}
use Rattle.dm_check_plans.specs.declared.grounds.Grounds.{Grounds}

-- the task of which the nodes are judged, with this budget
abbrev pub task_of : Grounds → ℕ → Task
task_of grounds budget = whole_task grounds.net.now grounds.rows.now grounds.penalty budget

-- what the rows themselves cost is that
abbrev pub IsOwn : Grounds → Type 0
IsOwn grounds = IsOwnCost grounds.net.now grounds.rows.now grounds.penalty grounds.own
