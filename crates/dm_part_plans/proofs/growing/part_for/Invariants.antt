use Rattle.std.specs.Prelude.{◌≤◌, length}
use Rattle.dm_task.specs.Tasks.{task_of}
use Rattle.dm_traverse.specs.Moving.{IsOver}
use Rattle.dm_part_plans.specs.Inside.Nodes.{IsGrown, IsLeastOf, IsLow}
use Rattle.dm_part_plans.proofs.growing.part_for.Given as goal

abbrev pub invariant-loop-node : goal.invariant-loop-node
invariant-loop-node l =
    record {
      grown : IsGrown (task_of l.task) l.share l.growing.nodes.items l.growing.path.items;
      least : IsLeastOf l.growing.nodes.items l.growing.least;
      low : IsLow l.growing.least;
      few : length l.growing.nodes.items ≤ l.room;
      evaluator : IsOver (task_of l.task) l.evaluator;
    }
