use Rattle.dm_task.specs.Tasks.{task_of}
use Rattle.dm_traverse.specs.Moving.{IsOver}
use Rattle.dm_team.proofs.Enlisted.{all_more}
use Rattle.dm_team.proofs.searching.led_by.Goals as goal

pub returns-clause-evaluators : goal.returns-clause-evaluators
returns-clause-evaluators c =
    all_more (IsOver (task_of c.args.task.now)) _ _ c.choices_of.new.evaluator c.in_ok-push.ensures.items
    (c.lend.ensures _ c.requires.evaluators).1 c.choices_of.ensures.evaluator

pub returns-clause-kept : goal.returns-clause-kept
returns-clause-kept c = c.in_ok-best.ensures.kept _ c.requires.kept
