use Rattle.std.proofs.Common.{◌*◌}
use Rattle.dm_marks.specs.Inside.Words.{NoBitBetween}
use Rattle.dm_marks.proofs.marks.first_in_words.Given as goal

abbrev pub invariant-loop-k : goal.invariant-loop-k
invariant-loop-k l = NoBitBetween l.words (l.word * 64) (l.k * 64)
