use Rattle.std.proofs.Common.{◌-◌}
use Rattle.dm_feed.specs.Inside.Consuming.{Drops, Holds}
use Rattle.dm_feed.proofs.reader.LineReader.skip_line.Given as goal

abbrev pub invariant-loop-stop : goal.invariant-loop-stop
invariant-loop-stop g l = record {
  drops : Drops g.S.Source.left l.fn.self l.self;
  holds : Holds g.S.Source.faults g.S.Source.is_sound l.fn.self l.self;
}

abbrev pub decreases-loop-stop : goal.decreases-loop-stop
decreases-loop-stop g l = 262145 - l.self.taken
