use Rattle.std.proofs.Common.{◌-◌}
use Rattle.dm_feed.specs.Inside.Consuming.{Grows, Looked, Holds}
use Rattle.dm_feed.proofs.reader.LineReader.next_line.Given as goal

abbrev pub invariant-loop-at : goal.invariant-loop-at
invariant-loop-at g l = record {
  grows : Grows g.S.Source.left l.fn.self l.self;
  looked : Looked l.self l.looked;
  holds : Holds g.S.Source.faults g.S.Source.is_sound l.fn.self l.self;
}

abbrev pub decreases-loop-at : goal.decreases-loop-at
decreases-loop-at g l = 262145 - l.self.taken
