use Rattle.dm_words.proofs.Numbering.{first_is, is_spelled, spells}
use Rattle.dm_words.proofs.ids.read_pieces.Goals as goal

pub returns-in_default-id_of : goal.returns-in_default-id_of
returns-in_default-id_of c = λ all spelled.
    let read = rw c.in-Some.is at c.loop-rest.invariant in
    c.in_default-id_of.ensures _ (first_is _ _ _ c.first_piece.ensures (read.1 (is_spelled _ all spelled)))

pub returns : goal.returns
returns c =
    let read = rw c.in_default.is at c.loop-rest.invariant in
    spells _ (read.0 tt)
