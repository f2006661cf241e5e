use Rattle.std.proofs.Common.{length}
use Rattle.std.specs.Prelude.{option_map}
use Rattle.dm_lintim.specs.Pieces.{is_comma, pieces, pieces_left}
use Rattle.dm_words.specs.Inside.Pieces.{AreAllIds}
use Rattle.dm_words.proofs.ids.read_pieces.Given as goal

-- all pieces are ids exactly where those that are left are
abbrev pub invariant-loop-rest : goal.invariant-loop-rest
invariant-loop-rest l =
    (AreAllIds (pieces_left (option_map (λ x. x.now) l.rest)) → AreAllIds (pieces is_comma l.fn.text))
    × (AreAllIds (pieces is_comma l.fn.text) → AreAllIds (pieces_left (option_map (λ x. x.now) l.rest)))

abbrev pub decreases-loop-rest : goal.decreases-loop-rest
decreases-loop-rest l = length (pieces_left (option_map (λ x. x.now) l.rest))
