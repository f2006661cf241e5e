use Rattle.std.proofs.Common.{◌≡◌, ◌++◌, map, reverse}
use Rattle.dm_deques.specs.Sharing.{deque_of, settling_each}
use Rattle.dm_deques.proofs.sharing.settle_each.Given as goal

abbrev pub invariant-loop-owner : goal.invariant-loop-owner
invariant-loop-owner g l =
    record {
      deques : map deque_of (reverse l.due.items) ≡ map deque_of l.owner-iterator.rest.items;
      all : l.settled.items ++ settling_each l.owner-iterator.rest.items (reverse l.due.items) ≡ settling_each l.fn.owners.items l.fn.tallies.items;
    }
