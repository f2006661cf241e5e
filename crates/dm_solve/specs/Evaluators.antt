-- Evaluators that parts are found by, and leaves and choices judged.
use Rattle.dm_evaluate.specs.Evaluator.{EvaluatorValue}
use Rattle.dm_traverse.specs.Moving.{IsOver}
use Rattle.dm_tree.specs.Plans.{Task}

-- each has decided the task's base
pub record AreOver (task : Task) (first second third : EvaluatorValue) : Type 0 where
  pub whole : IsOver task first
  pub polishing : IsOver task second
  pub judging : IsOver task third
