-- Which paths a search by a guide goes: by steps from the choices on which the guide's tree branches.
use Rattle.std.specs.Prelude.{ℕ, ◌≡◌, ◌+◌, ◌++◌, List, [], ◌∷◌, Option, Some, None, slice_get, if◌then◌else◌}
use Rattle.dm_rows.specs.declared.messages.Choice.{Choice}
use Rattle.dm_rows.specs.declared.messages.Decision.{Decision}
use Rattle.dm_rows.specs.Decide.{IsChoiceList}
use Rattle.dm_rows.specs.Sides.{is_first_decision}
use Rattle.dm_tree.specs.Plans.{Task, IsTrueInner}
use Rattle.dm_task.specs.declared.tasks.Task.{Task as PosedTask}
use Rattle.dm_task.specs.declared.guides.Guide.{Guide}
use Rattle.dm_task.specs.declared.guides.Hint.{Hint}
use Rattle.dm_task.specs.Tasks.{task_of}
use Rattle.dm_team.specs.Ways.{GoesDown}

-- a task, and the nodes of a guide's tree
pub record GuidedTask : Type 0 where
  pub task : Task
  pub hints : List Hint

abbrev pub guided_by : PosedTask → Guide → GuidedTask
guided_by task guide = record { task = task_of task; hints = guide.hints.items }

-- the number of the child of a guide's node to which a decision leads: the second child follows the first
abbrev pub child_by : Option ℕ → Decision → Option ℕ
child_by None d = None
child_by (Some first) d = Some (if is_first_decision d then first else first + 1)

abbrev pub child_of : Option Hint → Decision → Option ℕ
child_of None d = None
child_of (Some hint) d = child_by hint.below d

-- what a guide says of the node to which a path leads from the node of a number
abbrev pub hint_along : List Hint → Option ℕ → List Decision → Option Hint
hint_along hints None path = None
hint_along hints (Some node) [] = slice_get hints node
hint_along hints (Some node) (d ∷ path) = hint_along hints (child_of (slice_get hints node) d) path

-- the choice on which a guide's tree branches at a node, where it goes on below it
abbrev pub branching_by : Option Choice → Option ℕ → Option Choice
branching_by (Some choice) (Some below) = Some choice
branching_by (Some choice) None = None
branching_by None below = None

abbrev pub branching_of : Option Hint → Option Choice
branching_of None = None
branching_of (Some hint) = branching_by hint.choice hint.below

-- and at the node to which a path leads from the root
abbrev pub branching_at : List Hint → List Decision → Option Choice
branching_at hints path = branching_of (hint_along hints (Some 0) path)

-- The choice of a true inner node at the path: the one on which the guide's tree branches there. For one task it depends on the path
-- alone.
pub record IsChosen (task : GuidedTask) (path : List Decision) (choice : Choice) : Type 0 where
  pub inner : IsTrueInner task.task path choice
  pub hinted : branching_at task.hints path ≡ Some choice

-- a path that decides free choices, none twice, each decision one of the two of the choice that is chosen at the path before it
pub record IsNode (task : GuidedTask) (path : List Decision) : Type 0 where
  pub list : IsChoiceList task.task.net task.task.rows (task.task.base ++ path)
  pub way : GoesDown (IsChosen task) [] path

-- what fits is what is a node
pub record PicksNodes (task : GuidedTask) (fits : List Decision → Type 0) : Type 0 where
  pub opens : (path : List Decision) → fits path → IsNode task path
  pub makes : (path : List Decision) → IsNode task path → fits path
