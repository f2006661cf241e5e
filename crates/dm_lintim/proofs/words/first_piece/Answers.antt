use Rattle.std.proofs.Common.{◌≤◌, ◌+◌, ◌-◌, arith, drop, length}
use Rattle.std.proofs.lemmas.Bool.{eq-eqb}
use Rattle.std.proofs.lemmas.List.{length-drop, take_all}
use Rattle.dm_lintim.proofs.PieceLemmas.{no_comma, pieces_cut, pieces_whole}
use Rattle.dm_lintim.specs.Pieces.{is_comma}
use Rattle.dm_lintim.proofs.words.first_piece.Goals as goal

pub returns-then-byte-eq44 : goal.returns-then-byte-eq44
returns-then-byte-eq44 c =
    let text = c.args.text.now in
    let place = c.loop-place.place in
    let rest = drop (place + 1) text in
    let size = length-drop (place + 1) text in
    let whole : length rest ≤ length text - (place + 1) = omega (arith, size) in
    rw (take_all (length text - (place + 1)) rest whole) (
    pieces_cut is_comma text place (omega arith) (no_comma text place c.loop-place.invariant) (eq-eqb _ 44 c.if-byte-eq44.true)
    )

pub returns : goal.returns
returns c = pieces_whole is_comma c.args.text.now (λ k below. no_comma c.args.text.now c.loop-place.place c.loop-place.invariant k (omega (arith, below)))
