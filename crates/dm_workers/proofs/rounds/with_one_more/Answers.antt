use Rattle.dm_task.specs.Tasks.{task_of}
use Rattle.dm_traverse.specs.Moving.{IsOver}
use Rattle.dm_team.proofs.Enlisted.{all_more}
use Rattle.dm_workers.proofs.rounds.with_one_more.Goals as goal

pub returns : goal.returns
returns c =
    all_more (IsOver (task_of c.args.task.now)) _ _ c.args.evaluator c.in_ok-push.ensures.items c.requires.evaluators c.requires.evaluator
