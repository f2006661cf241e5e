use Rattle.std.proofs.Common.{◌+◌, ◌-◌, length}
use Rattle.dm_feed.specs.Inside.Consuming.{ConsumesQuiet, Holds}
use Rattle.dm_feed.proofs.reader.LineReader.next_due.Given as goal

abbrev pub invariant-loop-heard : goal.invariant-loop-heard
invariant-loop-heard g l = record {
  quiet : ConsumesQuiet g.S.Source.left l.fn.self l.self;
  holds : Holds g.S.Source.faults g.S.Source.is_sound l.fn.self l.self;
}

abbrev pub decreases-loop-heard : goal.decreases-loop-heard
decreases-loop-heard g l = 262144 + length l.self.pending - l.self.taken
