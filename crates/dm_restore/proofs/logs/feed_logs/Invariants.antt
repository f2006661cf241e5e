use Rattle.std.proofs.Common.{◌≡◌, ◌++◌, map}
use Rattle.dm_book.specs.Books.{log_of}
use Rattle.dm_restore.proofs.logs.feed_logs.Given as goal

abbrev pub invariant-loop-items : goal.invariant-loop-items
invariant-loop-items l =
    record {
      whole : l.yielded ++ l.items-iterator.rest.items ≡ l.fn.logs.items;
      so_far : l.made.items ≡ map log_of (map (λ log. log.items) l.yielded);
    }
