use Rattle.std.proofs.Common.{◌≡◌, ◌++◌, length, map}
use Rattle.dm_book.specs.Books.{with_round}
use Rattle.dm_restore.proofs.rounds.add_round.Given as goal

abbrev pub invariant-loop-items : goal.invariant-loop-items
invariant-loop-items l =
    record {
      whole : l.yielded ++ l.items-iterator.rest.items ≡ l.fn.round.items;
      here : l.feed ≡ length l.yielded;
      as_many : length l.logs.items ≡ length l.fn.logs.items;
      so_far : map (λ log. log.items) l.logs.items ≡ with_round (map (λ log. log.items) l.fn.logs.items) l.yielded;
    }
