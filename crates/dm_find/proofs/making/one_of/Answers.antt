use Rattle.std.proofs.Common.{Some}
use Rattle.std.proofs.lemmas.List.Elements.{All-pop}
use Rattle.dm_task.specs.Tasks.{task_of}
use Rattle.dm_traverse.specs.Moving.{IsOver}
use Rattle.dm_find.proofs.making.one_of.Goals as goal

pub returns-in-Some-clause-one : goal.returns-in-Some-clause-one
returns-in-Some-clause-one c =
    (All-pop (IsOver (task_of c.args.task.now)) _ _ (Some c.in-Some.evaluator) c.in-Some.ensures.items c.requires.evaluators).1

pub returns-in-Some-clause-others : goal.returns-in-Some-clause-others
returns-in-Some-clause-others c =
    (All-pop (IsOver (task_of c.args.task.now)) _ _ (Some c.in-Some.evaluator) c.in-Some.ensures.items c.requires.evaluators).0
