use Rattle.std.proofs.Common.{◌≤◌, ◌-◌, ◌*◌, length}
use Rattle.dm_marks.specs.Inside.Words.{AreCovered, NoBitBetween}
use Rattle.dm_marks.proofs.marks.first_behind.Given as goal

abbrev pub invariant-loop-next : goal.invariant-loop-next
invariant-loop-next l = record {
  covered : AreCovered l.words l.groups;
  onward : l.word ≤ l.from;
  none : NoBitBetween l.words (l.word * 64) (l.from * 64);
}

abbrev pub decreases-loop-next : goal.decreases-loop-next
decreases-loop-next l = length l.words - l.from
