use Rattle.std.proofs.Common.{◌≡◌, ◌++◌}
use Rattle.dm_restore.proofs.rounds.add_items.Given as goal

abbrev pub invariant-loop-item : goal.invariant-loop-item
invariant-loop-item l =
    record {
      whole : l.yielded ++ l.item-iterator.rest.items ≡ l.fn.items.items;
      so_far : l.log.items ≡ l.fn.log.items ++ l.yielded;
    }
