use Rattle.std.proofs.Common.{◌≡◌, ◌++◌, length, map}
use Rattle.dm_tail.specs.Sources.{source_in}
use Rattle.dm_serve.specs.Inside.Stages.{CaughtUpTo}
use Rattle.dm_serve.proofs.starting.catch_up_all.Given as goal

abbrev pub invariant-loop-log : goal.invariant-loop-log
invariant-loop-log g l =
    record {
      whole : l.yielded ++ l.log-iterator.rest.items ≡ l.fn.logs.items;
      place_is : l.place ≡ length l.yielded;
      caught : CaughtUpTo g.T.Growing.given l.yielded l.fn.feeds.items l.feeds.items;
      sources : map (source_in g.T.Growing.source) l.feeds.items ≡ map (source_in g.T.Growing.source) l.fn.feeds.items;
    }
