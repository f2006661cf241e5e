-- There are no more lines than bytes.
use Rattle.std.proofs.Common.{ℕ, ◌+◌, ◌<◌, ◌≤◌, eqb, List, [], ◌∷◌, length, inl, inr, ap, arith}
use Rattle.std.specs.List.{onto_first}
use Rattle.std.proofs.lemmas.Bool.{cases_Bool}
use Rattle.std.proofs.lemmas.List.Splits.{slice_split-cons_yes, slice_split-cons_no}
use Rattle.dm_feed.specs.DueItems.{pieces_of, lines_among, lines_of}
use Rattle.dm_feed.proofs.Ahead.{some_piece, line_among}

one_more : (x : ℕ) (pieces : List (List ℕ)) → 0 < length pieces → length (lines_among (onto_first x pieces)) ≤ length (lines_among pieces) + 1
one_more x [] some = absurd (omega arith)
one_more x (last ∷ []) some = omega arith
one_more x (piece ∷ next ∷ pieces) some = omega arith

pub few_lines : (bytes : List ℕ) → length (lines_of bytes) ≤ length bytes
few_lines [] = omega arith
few_lines (x ∷ xs) =
    elim (cases_Bool (eqb x 10)) [
      | inl ends ↦
          omega (arith, few_lines xs, ap (λ (ps : List (List ℕ)). length (lines_among ps)) (slice_split-cons_yes (λ b. eqb b 10) x xs ends), ap length (line_among [] (pieces_of xs) (some_piece xs)))
      | inr goes_on ↦
          omega (arith, few_lines xs, ap (λ (ps : List (List ℕ)). length (lines_among ps)) (slice_split-cons_no (λ b. eqb b 10) x xs goes_on), one_more x (pieces_of xs) (some_piece xs))
    ]
