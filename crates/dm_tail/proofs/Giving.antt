-- What a feed in memory gives.
use Rattle.std.proofs.Common.{◌≡◌, ℕ, ◌+◌, ◌≤◌, List, ◌++◌, length, take, drop, sym, ap, ◌∙◌, arith, length-drop, take-append-drop}
use Rattle.std.proofs.lemmas.List.{length-take-le, take_all}
use Rattle.std.proofs.Math.Seq.{take-append-add, take-append-le}

pub given_more : (bytes piece rest : List ℕ) (at count : ℕ) → piece ≡ take count (drop at bytes) → at + count ≤ length bytes →
    take (at + count) bytes ≡ take at bytes ++ take count (piece ++ rest)
given_more bytes piece rest at count is within =
    let front = take at bytes in
    let long : length front ≡ at = length-take-le at bytes (omega (arith, within)) in
    let left : count ≤ length (drop at bytes) = omega (arith, within, length-drop at bytes) in
    let whole : length piece ≡ count = ap length is ∙ length-take-le count (drop at bytes) left in
    let here : take count (piece ++ rest) ≡ take count (drop at bytes) =
    take-append-le count piece rest (omega (arith, whole)) ∙ (take_all count piece (omega (arith, whole)) ∙ is) in
    ap (λ (l : List ℕ). take (at + count) l) (sym (take-append-drop at bytes))
    ∙ (ap (λ (k : ℕ). take (k + count) (front ++ drop at bytes)) (sym long)
    ∙ (take-append-add front (drop at bytes) count ∙ ap (λ (l : List ℕ). front ++ l) (sym here)))
