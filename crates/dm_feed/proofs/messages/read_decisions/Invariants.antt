use Rattle.std.proofs.Common.{length}
use Rattle.dm_feed.specs.Words.{words_of}
use Rattle.dm_feed.specs.Inside.Deciding.{ReadSoFar}
use Rattle.dm_feed.proofs.messages.read_decisions.Given as goal

abbrev pub invariant-loop-decision : goal.invariant-loop-decision
invariant-loop-decision l = ReadSoFar (words_of l.words) (words_of l.rest) l.decisions.items

abbrev pub decreases-loop-decision : goal.decreases-loop-decision
decreases-loop-decision l = length (words_of l.rest)
