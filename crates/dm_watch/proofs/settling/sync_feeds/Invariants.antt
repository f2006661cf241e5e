use Rattle.std.proofs.Common.{◌≡◌, ◌++◌, map, length}
use Rattle.dm_tail.specs.Sources.{source_in}
use Rattle.dm_watch.specs.Settled.{log_parts}
use Rattle.dm_watch.proofs.settling.sync_feeds.Given as goal

abbrev pub invariant-loop-watched : goal.invariant-loop-watched
invariant-loop-watched g l =
    record {
      whole : l.yielded ++ l.watched-iterator.rest.items ≡ l.fn.feeds.items;
      many : length l.synced.items ≡ length l.yielded;
      same : map (log_parts g.T.Growing.given) l.synced.items ≡ map (log_parts g.T.Growing.given) l.yielded;
      sources : map (source_in g.T.Growing.source) l.synced.items ≡ map (source_in g.T.Growing.source) l.yielded;
    }
