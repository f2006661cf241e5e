use Rattle.std.proofs.lemmas.List.Elements.{All-push, All-same}
use Rattle.dm_task.specs.Tasks.{task_of}
use Rattle.dm_traverse.specs.Moving.{IsOver}
use Rattle.dm_find.proofs.making.in_one_thread.Goals as goal

pub loop-evaluator-preserved : goal.loop-evaluator-preserved
loop-evaluator-preserved c =
    let P = IsOver (task_of c.args.task.now) in
    All-same P _ _ c.in_ok-push.ensures.items (All-push P _ _ c.loop-evaluator.invariant c.in_ok-evaluator_at_base.ensures)
