use Rattle.std.proofs.Common.{◌≡◌, ◌++◌, map}
use Rattle.dm_serve.specs.Inside.Stages.{log_in, tail_in}
use Rattle.dm_serve.proofs.ending.apart.Given as goal

abbrev pub invariant-loop-watched : goal.invariant-loop-watched
invariant-loop-watched g l =
    record {
      whole : l.yielded ++ l.watched-iterator.rest.items ≡ l.fn.feeds.items;
      logs : l.logs.items ≡ map log_in l.yielded;
      tails : l.tails.items ≡ map tail_in l.yielded;
    }
