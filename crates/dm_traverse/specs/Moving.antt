-- Where an evaluator of a task stands, and how far the decisions of a path can be made.
use Rattle.std.specs.Prelude.{ℕ, ◌≡◌, ◌⊎◌, ◌++◌, ◌∷◌, [], List, Some, slice_get, take}
use Rattle.dm_evaluate.specs.Evaluator.{EvaluatorValue, IsEvaluatorOf}
use Rattle.dm_network.specs.Net.{Net}
use Rattle.dm_paths.specs.Decisions.{IsOpen}
use Rattle.dm_rows.specs.declared.messages.Decision.{Decision}
use Rattle.dm_rows.specs.Decide.{choice_of}
use Rattle.dm_rows.specs.Rows.{RowsValue}
use Rattle.dm_tree.specs.Pending.{IsFront}
use Rattle.dm_tree.specs.Plans.{Task}
use Rattle.dm_traverse.specs.Steps.{HasRelaxedCycle}

-- the evaluator is one of the task's rows, and its path begins with the base
pub record IsOver (task : Task) (evaluator : EvaluatorValue) : Type 0 where
  pub is : IsEvaluatorOf task.net evaluator
  pub same : evaluator.rows ≡ task.rows
  pub begins : IsFront task.base evaluator.path

-- the decision's choice is not free or decided already, or the relaxed problem of the path with it has a cycle
abbrev pub CannotBeMade : Net → RowsValue → List Decision → Decision → Type 0
CannotBeMade net rows path d = (IsOpen net rows path (choice_of d) → ⊥) ⊎ HasRelaxedCycle net rows (path ++ d ∷ [])

-- the path has the first decisions behind a base: all of them, or those before the first that cannot be made there
pub record GoesAlong (net : Net) (rows : RowsValue) (base decisions path : List Decision) : Type 0 where
  pub many : ℕ
  pub made : path ≡ base ++ take many decisions
  pub stuck : (d : Decision) → slice_get decisions many ≡ Some d → CannotBeMade net rows path d
