use Rattle.std.proofs.Common.{◌≡◌, ◌≤◌, length, take}
use Rattle.dm_evaluate.specs.Evaluator.{IsEvaluatorOf}
use Rattle.dm_traverse.proofs.walking.back_to.Given as goal

abbrev pub invariant-loop-evaluator : goal.invariant-loop-evaluator
invariant-loop-evaluator l =
    record {
      evaluator : IsEvaluatorOf l.net l.evaluator;
      rows : l.evaluator.rows ≡ l.fn.evaluator.rows;
      within : length l.evaluator.path ≤ length l.fn.evaluator.path;
      enough : l.left ≤ length l.evaluator.path;
      front : l.evaluator.path ≡ take (length l.evaluator.path) l.fn.evaluator.path;
    }

abbrev pub decreases-loop-evaluator : goal.decreases-loop-evaluator
decreases-loop-evaluator l = length l.evaluator.path
