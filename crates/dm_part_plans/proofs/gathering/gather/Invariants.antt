use Rattle.dm_task.specs.Tasks.{task_of}
use Rattle.dm_traverse.specs.Moving.{IsOver}
use Rattle.dm_part_plans.specs.Inside.Gathered.{AreGathered}
use Rattle.dm_part_plans.proofs.gathering.gather.Given as goal

abbrev pub invariant-loop-tree : goal.invariant-loop-tree
invariant-loop-tree l =
    record {
      gathered : AreGathered (task_of l.task) l.gathered.claims.arrivals.items l.gathered.claims.changes.items
          l.gathered.parts.items l.gathered.bound l.gathered.nodes l.gathered.ids;
      evaluator : IsOver (task_of l.task) l.evaluator;
    }
