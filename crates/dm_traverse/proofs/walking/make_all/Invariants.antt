use Rattle.std.proofs.Common.{◌≡◌, ◌++◌, take}
use Rattle.dm_evaluate.specs.Evaluator.{IsEvaluatorOf}
use Rattle.dm_traverse.proofs.walking.make_all.Given as goal

abbrev pub invariant-loop-i : goal.invariant-loop-i
invariant-loop-i l =
    record {
      evaluator : IsEvaluatorOf l.net l.evaluator;
      rows : l.evaluator.rows ≡ l.fn.evaluator.rows;
      path : l.evaluator.path ≡ l.fn.evaluator.path ++ take l.i l.decisions;
    }

abbrev pub ghosts-decide_with : goal.ghosts-decide_with
ghosts-decide_with a = record { name = a.blank.name; parts = a.blank.parts }
