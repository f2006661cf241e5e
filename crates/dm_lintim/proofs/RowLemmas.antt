-- The rows of the records that were read.
use Rattle.std.proofs.Common.{◌≡◌, ◌≤◌, ◌+◌, ℕ, suc, true, false, List, [], ◌∷◌, ◌++◌, length, map, Option, refl, sym, ap, ◌∙◌, inl, inr, arith, append_assoc, length-append}
use Rattle.std.specs.List.{AllByRecursion}
use Rattle.std.proofs.lemmas.Bool.{cases_Bool}
use Rattle.std.proofs.lemmas.List.{append-nil}
use Rattle.dm_lintim.specs.declared.columns.Column.{Column}
use Rattle.dm_lintim.specs.declared.fault.FileFault.{FileFault}
use Rattle.dm_lintim.specs.Files.{AreRows, IsFirstFault, IsGood}
use Rattle.dm_lintim.specs.Inside.Rows.{AddsRow, BreaksFile, HasRows}
use Rattle.dm_lintim.specs.Pieces.{counted_among, is_passed_over, cell_of}

counted-append : (xs ys : List (List (List ℕ))) → counted_among (xs ++ ys) ≡ counted_among xs ++ counted_among ys
counted-append [] ys = refl
counted-append (x ∷ xs) ys =
    let more = counted-append xs ys in
    elim (cases_Bool (is_passed_over (map cell_of x))) [ inl e ↦ rw e more | inr e ↦ rw (e, more) refl ]

counted_passed : (r : List (List ℕ)) (ys : List (List (List ℕ))) → is_passed_over (map cell_of r) ≡ true → counted_among (r ∷ ys) ≡ counted_among ys
counted_passed r ys e = rw e refl

counted_counts : (r : List (List ℕ)) (ys : List (List (List ℕ))) → is_passed_over (map cell_of r) ≡ false → counted_among (r ∷ ys) ≡ map cell_of r ∷ counted_among ys
counted_counts r ys e = rw e refl

counted_few : (xs : List (List (List ℕ))) → length (counted_among xs) ≤ length xs
counted_few [] = omega arith
counted_few (x ∷ xs) =
    let more = counted_few xs in
    elim (cases_Bool (is_passed_over (map cell_of x))) [ inl e ↦ rw e (omega arith) | inr e ↦ rw e (omega arith) ]

module _ {R : Type 0} (K : List ℕ → Type 0) (IsRow : List (Option Column) → List (List ℕ) → R → Type 0) (cs : List (Option Column)) where
  rows_push : (rs : List (List (List ℕ))) (xs : List R) (r : List (List ℕ)) (x : R) → AreRows IsRow cs rs xs → IsRow cs r x → AreRows IsRow cs (rs ++ r ∷ []) (xs ++ x ∷ [])
  rows_push [] [] r x rows row = (row, tt)
  rows_push [] (y ∷ xs) r x rows row = absurd rows
  rows_push (q ∷ rs) [] r x rows row = absurd rows
  rows_push (q ∷ rs) (y ∷ xs) r x rows row = (rows.0, rows_push rs xs r x rows.1 row)

  rows-length : (rs : List (List (List ℕ))) (xs : List R) → AreRows IsRow cs rs xs → length xs ≡ length rs
  rows-length [] [] rows = refl
  rows-length [] (y ∷ xs) rows = absurd rows
  rows-length (q ∷ rs) [] rows = absurd rows
  rows-length (q ∷ rs) (y ∷ xs) rows = ap suc (rows-length rs xs rows.1)

  good_push : (rs : List (List (List ℕ))) (r : List (List ℕ)) → AllByRecursion (IsGood K cs) rs → IsGood K cs r → AllByRecursion (IsGood K cs) (rs ++ r ∷ [])
  good_push [] r all one = (one, tt)
  good_push (q ∷ rs) r all one = (all.0, good_push rs r all.1 one)

  pub rows_more : (all left : List (List (List ℕ))) (r : List (List ℕ)) (xs new : List R)
      → HasRows K IsRow cs all (r ∷ left) xs → AddsRow K IsRow cs (map cell_of r) xs new → HasRows K IsRow cs all left new
  rows_more all left r xs new has (inl passed) =
      let same : counted_among (has.before ++ r ∷ []) ≡ counted_among has.before =
      counted-append has.before (r ∷ []) ∙ ap (λ (t : List (List (List ℕ))). counted_among has.before ++ t) (counted_passed r [] passed.0) ∙ append-nil (counted_among has.before) in
      record {
        before = has.before ++ r ∷ [];
        records_are = has.records_are ∙ sym (append_assoc has.before (r ∷ []) left);
        rows_are = rw (same, passed.1) has.rows_are;
        good = rw same has.good;
      }
  rows_more all left r xs new has (inr (counts, x, row, good, is)) =
      let more : counted_among (has.before ++ r ∷ []) ≡ counted_among has.before ++ (map cell_of r ∷ []) =
      counted-append has.before (r ∷ []) ∙ ap (λ (t : List (List (List ℕ))). counted_among has.before ++ t) (counted_counts r [] counts) in
      record {
        before = has.before ++ r ∷ [];
        records_are = has.records_are ∙ sym (append_assoc has.before (r ∷ []) left);
        rows_are = rw (more, is) (rows_push (counted_among has.before) xs (map cell_of r) x has.rows_are row);
        good = rw more (good_push (counted_among has.before) (map cell_of r) has.good good);
      }

  -- a record that breaks a rule is the first
  pub first_fault : (all left : List (List (List ℕ))) (r : List (List ℕ)) (xs : List R) (fault : FileFault)
      → HasRows K IsRow cs all (r ∷ left) xs → BreaksFile K cs (map cell_of r) (length xs) fault → IsFirstFault K cs (counted_among all) fault
  first_fault all left r xs fault has breaks = record {
    before = counted_among has.before;
    broken = map cell_of r;
    after = counted_among left;
    records_are = ap counted_among has.records_are ∙ counted-append has.before (r ∷ left)
        ∙ ap (λ (t : List (List (List ℕ))). counted_among has.before ++ t) (counted_counts r left breaks.counts);
    good = has.good;
    number = breaks.number ∙ ap (λ (n : ℕ). n + 1) (rows-length (counted_among has.before) xs has.rows_are);
    breaks = breaks.breaks;
  }

  -- no more rows than records
  pub rows_few : (all left : List (List (List ℕ))) (xs : List R) → HasRows K IsRow cs all left xs → length xs + length left ≤ length all
  rows_few all left xs has =
      omega (arith, rows-length (counted_among has.before) xs has.rows_are, counted_few has.before, length-append has.before left, ap length has.records_are)

  -- what holds of each record holds of the one at hand
  pub record_at : (P : List (List ℕ) → Type 0) (all left : List (List (List ℕ))) (r : List (List ℕ)) (xs : List R)
      → HasRows K IsRow cs all (r ∷ left) xs → AllByRecursion P all → P r
  record_at P all left r xs has holds = at has.before (rw has.records_are at holds)
    where
      at : (before : List (List (List ℕ))) → AllByRecursion P (before ++ (r ∷ left)) → P r
      at [] h = h.0
      at (b ∷ bs) h = at bs h.1
