use Rattle.std.proofs.Common.{ℕ}
use Rattle.dm_task.specs.Tasks.{task_of}
use Rattle.dm_traverse.specs.Moving.{IsOver}
use Rattle.dm_team.specs.Nodes.{guided_by}
use Rattle.dm_team.specs.Accounts.{Weight}
use Rattle.dm_team.specs.Inside.Working.{nothing}
use Rattle.dm_team.specs.Inside.Workers.{IsWorking, IsSameWorker}
use Rattle.dm_team.proofs.working.Worker.take_all.Given as goal

abbrev pub invariant-loop : goal.invariant-loop
invariant-loop g l =
    record {
      same : IsSameWorker l.initial.self l.self;
      at : IsOver (task_of l.team.task.now) l.evaluator;
      works : (given : Weight → ℕ) (start : ℕ) → IsWorking (guided_by l.team.task.now l.team.guide.now) l.team.own l.team.word.now.id start given nothing l.initial.self
          → IsWorking (guided_by l.team.task.now l.team.guide.now) l.team.own l.team.word.now.id start given nothing l.self;
    }
