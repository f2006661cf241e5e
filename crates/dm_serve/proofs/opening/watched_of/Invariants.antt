use Rattle.std.proofs.Common.{◌≡◌, ◌++◌, map, All}
use Rattle.dm_serve.specs.Inside.Opening.{IsUnread, opened}
use Rattle.dm_serve.proofs.opening.watched_of.Given as goal

abbrev pub invariant-loop-feed : goal.invariant-loop-feed
invariant-loop-feed g l =
    record {
      whole : l.yielded ++ l.feed-iterator.rest.items ≡ l.fn.feeds.items;
      so_far : l.yielded ≡ map opened l.all.items;
      unread : All IsUnread l.all.items;
    }
