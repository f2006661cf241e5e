-- What workers do in a team: for its task and guide, over its word and deques.
use Rattle.std.specs.Prelude.{ℕ, List, Result}
use Rattle.dm_task.specs.Tasks.{task_of}
use Rattle.dm_team.specs.declared.working.Team.{Team}
use Rattle.dm_team.specs.declared.working.Worker.{Worker}
use Rattle.dm_team.specs.Nodes.{guided_by}
use Rattle.dm_team.specs.Accounts.{Weight}
use Rattle.dm_team.specs.Inside.Workers.{IsWorking, IsNewWorker, IsDone}
use Rattle.dm_team.specs.Inside.Together.{AreHandedIn}

module _ {F : Type 0} where
  abbrev pub IsNewIn : Team F → Worker F → Type 0
  IsNewIn t w = IsNewWorker (task_of t.task.now) t.own t.word.now.id t.start t.thieves.now.items w

  abbrev pub WorksIn : Team F → ℕ → (Weight → ℕ) → (Weight → ℕ) → Worker F → Type 0
  WorksIn t start given in_hand w = IsWorking (guided_by t.task.now t.guide.now) t.own t.word.now.id start given in_hand w

  abbrev pub IsDoneIn : Team F → Worker F → Worker F → Type 0
  IsDoneIn t before after = IsDone (guided_by t.task.now t.guide.now) t.own t.word.now.id t.start t.thieves.now.items before after

  abbrev pub AreHandedInBy : {E : Type 0} → Team F → List (Worker F) → List (Result (Worker F) E) → Type 0
  AreHandedInBy t workers worked =
      AreHandedIn (guided_by t.task.now t.guide.now) t.own t.word.now.id t.start t.thieves.now.items workers worked
