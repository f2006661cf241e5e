use Rattle.std.proofs.Common.{◌≡◌, ◌++◌, take}
use Rattle.dm_evaluate.specs.Evaluator.{IsEvaluatorOf}
use Rattle.dm_traverse.proofs.moving.make_along.Given as goal

abbrev pub invariant-loop-i : goal.invariant-loop-i
invariant-loop-i l =
    record {
      evaluator : IsEvaluatorOf l.task.net.now l.evaluator;
      rows : l.evaluator.rows ≡ l.task.rows.now;
      path : l.evaluator.path ≡ l.task.base.now ++ take l.i l.path;
    }
