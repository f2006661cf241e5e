use Rattle.std.proofs.Common.{◌≡◌, ◌-◌, ◌<◌, ◌≤◌, length}
use Rattle.dm_feed.specs.Feeds.{IsUnended}
use Rattle.dm_tail.specs.Watching.{largest_feed}
use Rattle.dm_catch_up.specs.Inside.Comparing.{IsCaughtUp}
use Rattle.dm_catch_up.proofs.catching.catch_up.Given as goal

abbrev pub invariant-loop-from : goal.invariant-loop-from
invariant-loop-from g l =
    record {
      same : IsCaughtUp g.T.Growing.given l.from l.watched;
      unended : l.from < length l.watched.log.items → IsUnended l.watched.tail.pending.items;
      log : l.watched.log.items ≡ l.fn.watched.log.items;
      shown : l.watched.shown ≡ l.fn.watched.shown;
      later : g.T.Growing.faults l.fn.watched.tail.feed ≤ g.T.Growing.faults l.watched.tail.feed;
      source : g.T.Growing.source l.watched.tail.feed ≡ g.T.Growing.source l.fn.watched.tail.feed;
    }

abbrev pub decreases-loop-from : goal.decreases-loop-from
decreases-loop-from g l = largest_feed - l.watched.tail.taken
