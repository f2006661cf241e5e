use Rattle.std.specs.Prelude.{All}
use Rattle.dm_task.specs.Tasks.{task_of}
use Rattle.dm_traverse.specs.Moving.{IsOver}
use Rattle.dm_find.proofs.making.in_one_thread.Given as goal

abbrev pub invariant-loop-evaluator : goal.invariant-loop-evaluator
invariant-loop-evaluator l = All (IsOver (task_of l.fn.task)) l.all.items
