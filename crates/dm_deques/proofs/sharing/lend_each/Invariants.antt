use Rattle.std.proofs.Common.{◌≡◌, ◌++◌, map}
use Rattle.dm_deques.specs.Sharing.{new_tally, having_lent, deque_of}
use Rattle.dm_deques.proofs.sharing.lend_each.Given as goal

abbrev pub invariant-loop-owner : goal.invariant-loop-owner
invariant-loop-owner g l =
    record {
      owners : l.lent.owners.items ++ map having_lent l.owner-iterator.rest.items ≡ map having_lent l.fn.owners.items;
      tallies : l.lent.tallies.items ++ map new_tally (map deque_of l.owner-iterator.rest.items) ≡ map new_tally (map deque_of l.fn.owners.items);
    }
