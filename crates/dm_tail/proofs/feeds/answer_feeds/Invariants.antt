use Rattle.std.proofs.Common.{◌≡◌, ◌++◌, map}
use Rattle.dm_tail.specs.Feeds.{AnswersAll}
use Rattle.dm_tail.specs.Sources.{source_in}
use Rattle.dm_tail.proofs.feeds.answer_feeds.Given as goal

abbrev pub invariant-loop-watched : goal.invariant-loop-watched
invariant-loop-watched g l =
    record {
      whole : l.yielded ++ l.watched-iterator.rest.items ≡ l.fn.feeds.items;
      so_far : AnswersAll g.T.Growing.given l.fn.batch (g.D.Desk.value l.fn.desk) (g.D.Desk.value l.desk) l.yielded l.answered.items;
      sources : map (source_in g.T.Growing.source) l.answered.items ≡ map (source_in g.T.Growing.source) l.yielded;
    }
