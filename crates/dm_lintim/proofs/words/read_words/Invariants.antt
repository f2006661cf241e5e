use Rattle.std.proofs.Common.{length}
use Rattle.std.specs.Prelude.{option_map}
use Rattle.dm_lintim.specs.Columns.{words_of}
use Rattle.dm_lintim.specs.Inside.Words.{HasRead}
use Rattle.dm_lintim.specs.Pieces.{pieces_left}
use Rattle.dm_lintim.proofs.words.read_words.Given as goal

abbrev pub invariant-loop-rest : goal.invariant-loop-rest
invariant-loop-rest l = HasRead l.known (words_of l.fn.text) (pieces_left (option_map (λ s. s.now) l.rest)) l.layout

abbrev pub decreases-loop-rest : goal.decreases-loop-rest
decreases-loop-rest l = length (pieces_left (option_map (λ s. s.now) l.rest))
