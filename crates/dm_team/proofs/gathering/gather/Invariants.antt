use Rattle.std.proofs.Common.{◌≡◌, ◌≤◌, ℕ, List, [], All}
use Rattle.std.specs.Prelude.{IfOk, IfSome}
use Rattle.atomic_blocks.specs.Lent.{RowsId}
use Rattle.dm_traverse.specs.Moving.{IsOver}
use Rattle.dm_tree.specs.Plans.{Task}
use Rattle.dm_team.specs.Nodes.{GuidedTask}
use Rattle.dm_team.specs.declared.working.Worker.{Worker}
use Rattle.dm_team.specs.Inside.Together.{AreHandedIn, IsGatheredFrom}
use Rattle.dm_team.proofs.Joined.{Going}
use Rattle.dm_team.proofs.gathering.gather.Given as goal

abbrev pub invariant-loop-worker : goal.invariant-loop-worker
invariant-loop-worker g l =
    record {
      words : All (λ r. IfOk r (λ w. w.hand.word ≡ l.fn.word.id)) l.worker-iterator.rest.items;
      no_dearer : l.gathered.best.cost ≤ l.fn.first.best.cost;
      word : l.gathered.hand.word ≡ l.fn.word.id;
      evaluator : (task : Task) → IfSome l.fn.first.evaluator (IsOver task) → All (λ r. IfOk r (λ w. IfSome w.evaluator (IsOver task))) l.fn.worked.items
          → IfSome l.gathered.evaluator (IsOver task) × All (λ r. IfOk r (λ w. IfSome w.evaluator (IsOver task))) l.worker-iterator.rest.items;
      going : (task : GuidedTask) (own start rooms : ℕ) (theirs : List RowsId) (jobs : List (Worker _)) → AreHandedIn task own l.fn.word.id start theirs jobs l.fn.worked.items
          → IsGatheredFrom task own l.fn.word.id start rooms theirs [] l.fn.first → Going task own l.fn.word.id start rooms theirs jobs l.gathered l.worker-iterator.rest.items;
    }
