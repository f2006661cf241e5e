use Rattle.std.proofs.Common.{◌≡◌, ◌++◌, ◌-◌, map, All, length}
use Rattle.dm_deques.specs.Sharing.{deque_of}
use Rattle.dm_traverse.specs.Moving.{IsOver}
use Rattle.dm_tree.specs.Plans.{Task}
use Rattle.dm_team.specs.Inside.Gathering.{HasTakenNothing}
use Rattle.dm_team.specs.Inside.Workers.{IsNewWorker, owner_of}
use Rattle.dm_team.proofs.Enlisted.{IsPurse}
use Rattle.dm_team.proofs.mustering.muster.Given as goal

abbrev pub invariant-loop-owner : goal.invariant-loop-owner
invariant-loop-owner g l =
    record {
      owners : map owner_of l.workers.items ++ l.owner-iterator.rest.items ≡ l.fn.equipped.owners.items;
      left : All HasTakenNothing l.owner-iterator.rest.items;
      purses : All (IsPurse l.fn.equipped.owners.items) l.purses.items;
      many : length l.purses.items ≡ length l.owner-iterator.rest.items;
      hand : l.hand ≡ record l.fn.hand { room = l.fn.hand.room - length l.workers.items };
      new : (task : Task) → All (IsOver task) l.fn.evaluators.items
          → All (IsNewWorker task l.fn.own l.fn.word.id l.fn.hand.start (map deque_of l.fn.equipped.owners.items)) l.workers.items × All (IsOver task) l.evaluators.items;
    }
