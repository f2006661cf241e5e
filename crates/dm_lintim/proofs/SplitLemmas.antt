-- The machine of `csv` splits a text as `pieces` does.
use Rattle.std.proofs.Common.{◌≡◌, ◌<◌, ◌+◌, ℕ, zero, suc, true, false, cond, eqb, List, [], ◌∷◌, ◌++◌, length, map, filter, Option, Some, None, refl, sym, ap, ◌∙◌, inl, inr, arith, append_assoc}
use Rattle.std.proofs.lemmas.List.{append-nil}
use Rattle.std.proofs.lemmas.Bool.{cases_Bool, eqb-true}
use Rattle.csv.specs.Machine.{Read, next_record}
use Rattle.csv.specs.Reading.{records, records_from, records_next}
use Rattle.csv.specs.declared.parser.State.{State}
use Rattle.csv.specs.declared.parser.State.TheVariants as st
use Rattle.dm_lintim.specs.Pieces.{ends_line, filled_lines, is_filled, is_semicolon, pieces, split_records}
use Rattle.dm_lintim.specs.Split.{plain_config}
use Rattle.dm_lintim.specs.Inside.Reader.{IsBetween}
use Rattle.dm_lintim.proofs.PieceLemmas.{after_piece, after_piece-short, first_piece, more_pieces, pieces_are}

-- of the lines after the first one, those that are filled
more_lines : (xs : List ℕ) → filter is_filled (more_pieces ends_line xs) ≡ filled_lines (after_piece ends_line xs)
unfolding pieces more_pieces after_piece
more_lines [] = refl
more_lines (c ∷ cs) = elim (cases_Bool (ends_line c)) [ inl e ↦ rw e refl | inr e ↦ rw e (more_lines cs) ]

lines_skip : (c : ℕ) (cs : List ℕ) → ends_line c ≡ true → filled_lines (c ∷ cs) ≡ filled_lines cs
unfolding pieces
lines_skip c cs e = rw e refl

lines_first : (c : ℕ) (cs : List ℕ) → ends_line c ≡ false
    → filled_lines (c ∷ cs) ≡ first_piece ends_line (c ∷ cs) ∷ filled_lines (after_piece ends_line (c ∷ cs))
unfolding first_piece
lines_first c cs e =
    ap (filter is_filled) (pieces_are ends_line (c ∷ cs))
    ∙ rw e (ap (λ (ls : List (List ℕ)). (c ∷ first_piece ends_line cs) ∷ ls) (more_lines (c ∷ cs)))

-- the state after the line
unfoldable end_state : List ℕ → State
end_state [] = st.StartRecord
end_state (c ∷ cs) = cond (ends_line c) (cond (eqb c 13) st.AfterCr st.StartRecord) (end_state cs)

end_between : (xs : List ℕ) → IsBetween (end_state xs)
unfolding end_state
end_between [] = inl refl
end_between (c ∷ cs) =
    elim (cases_Bool (ends_line c)) [
      | inl e ↦ rw e (elim (cases_Bool (eqb c 13)) [ inl cr ↦ rw cr (inr refl) | inr lf ↦ rw lf (inl refl) ])
      | inr e ↦ rw e (end_between cs)
    ]

-- what the machine gives for the rest of a record, with the fields before it and the bytes of the field at hand
abbrev rest_of_record : List (List ℕ) → List ℕ → List ℕ → Option Read
rest_of_record fields field xs =
    Some (fields ++ ((field ++ first_piece is_semicolon (first_piece ends_line xs)) ∷ more_pieces is_semicolon (first_piece ends_line xs)), end_state xs, after_piece ends_line xs)

semicolon_stays : (c : ℕ) → eqb c 59 ≡ true → ends_line c ≡ false
semicolon_stays c e = rw (eqb-true c 59 e) refl

start_field_is : (fields : List (List ℕ)) (field xs : List ℕ) → next_record plain_config st.StartField fields field xs ≡ next_record plain_config st.InField fields field xs
unfolding next_record
start_field_is fields field [] = refl
start_field_is fields field (c ∷ cs) = refl

in_record : (fields : List (List ℕ)) (field xs : List ℕ) → next_record plain_config st.InField fields field xs ≡ rest_of_record fields field xs
unfolding next_record first_piece more_pieces after_piece end_state
in_record fields field [] = rw (append-nil field) refl
in_record fields field (c ∷ cs) =
    let line = first_piece ends_line cs in
    elim (cases_Bool (is_semicolon c)) [
      | inl semi ↦
          rw (semi, semicolon_stays c semi) (
          start_field_is (fields ++ field ∷ []) [] cs ∙ in_record (fields ++ field ∷ []) [] cs
          ∙ rw (semi, append_assoc fields (field ∷ []) (first_piece is_semicolon line ∷ more_pieces is_semicolon line), append-nil field, pieces_are is_semicolon line) refl
          )
      | inr plain ↦ elim (cases_Bool (ends_line c)) [
        | inl e ↦ rw (plain, e, append-nil field) refl
        | inr e ↦
            rw (plain, e) (
            in_record fields (field ++ c ∷ []) cs
            ∙ rw (plain, append_assoc field (c ∷ []) (first_piece is_semicolon line)) refl
            )
      ]
    ]

-- a record that was read is the first of the text, and the text after it has the others
abbrev pub IsNext : List ℕ → Option Read → Type 0
IsNext xs None = split_records xs ≡ []
IsNext xs (Some p) = (split_records xs ≡ p.0 ∷ split_records p.2) × IsBetween p.1 × (length p.2 < length xs)

starts_field : (c : ℕ) (cs : List ℕ) → ends_line c ≡ false
    → next_record plain_config st.StartRecord [] [] (c ∷ cs) ≡ next_record plain_config st.InField [] [] (c ∷ cs)
unfolding next_record
starts_field c cs e = rw e refl

skips_end : (c : ℕ) (cs : List ℕ) → ends_line c ≡ true
    → next_record plain_config st.StartRecord [] [] (c ∷ cs) ≡ next_record plain_config st.StartRecord [] [] cs
unfolding next_record
skips_end c cs e = rw e refl

is_next-skip : (c : ℕ) (cs : List ℕ) (r : Option Read) → ends_line c ≡ true → IsNext cs r → IsNext (c ∷ cs) r
is_next-skip c cs None e h = ap (map (pieces is_semicolon)) (lines_skip c cs e) ∙ h
is_next-skip c cs (Some p) e h = (ap (map (pieces is_semicolon)) (lines_skip c cs e) ∙ h.0, h.1, omega (arith, h.2))

shorter : (c : ℕ) (cs : List ℕ) → ends_line c ≡ false → length (after_piece ends_line (c ∷ cs)) < length (c ∷ cs)
unfolding after_piece
shorter c cs e = rw e (omega (arith, after_piece-short ends_line cs))

is_next-first : (c : ℕ) (cs : List ℕ) → ends_line c ≡ false → IsNext (c ∷ cs) (rest_of_record [] [] (c ∷ cs))
is_next-first c cs e = (
  ap (map (pieces is_semicolon)) (lines_first c cs e)
      ∙ ap (λ (r : List (List ℕ)). r ∷ split_records (after_piece ends_line (c ∷ cs))) (pieces_are is_semicolon (first_piece ends_line (c ∷ cs))),
  end_between (c ∷ cs),
  shorter c cs e,
)

none_is_next : IsNext [] (next_record plain_config st.StartRecord [] [] [])
unfolding next_record pieces
none_is_next = refl

-- the machine at the start of a record
start_is_next : (xs : List ℕ) → IsNext xs (next_record plain_config st.StartRecord [] [] xs)
start_is_next [] = none_is_next
start_is_next (c ∷ cs) =
    elim (cases_Bool (ends_line c)) [
      | inl e ↦ rw (skips_end c cs e) (is_next-skip c cs _ e (start_is_next cs))
      | inr e ↦ rw (starts_field c cs e, in_record [] [] (c ∷ cs)) (is_next-first c cs e)
    ]

-- after a CR an LF is passed over, as an empty line is
after_cr_is_start : (xs : List ℕ) → next_record plain_config st.AfterCr [] [] xs ≡ next_record plain_config st.StartRecord [] [] xs
unfolding next_record
after_cr_is_start [] = refl
after_cr_is_start (c ∷ cs) =
    elim (cases_Bool (eqb c 10)) [
      | inl lf ↦ rw (eqb-true c 10 lf) refl
      | inr other ↦ rw other refl
    ]

pub is_next : (s : State) (xs : List ℕ) → IsBetween s → IsNext xs (next_record plain_config s [] [] xs)
is_next s xs (inl e) = rw e (start_is_next xs)
is_next s xs (inr e) = rw (e, after_cr_is_start xs) (start_is_next xs)

-- a record and those after it
one_more : (n : ℕ) (xs : List ℕ)
    → ((t : State) (ys : List ℕ) → IsBetween t → length ys < length xs → records_from plain_config n t ys ≡ split_records ys)
    → (r : Option Read) → IsNext xs r → records_next (records_from plain_config n) r ≡ split_records xs
one_more n xs more None e = sym e
one_more n xs more (Some p) e =
    ap (λ (rs : List (List (List ℕ))). p.0 ∷ rs) (more p.1 p.2 e.1 e.2) ∙ sym e.0

records_from_are : (n : ℕ) (s : State) (xs : List ℕ) → IsBetween s → length xs < n → records_from plain_config n s xs ≡ split_records xs
unfolding records_from
records_from_are zero s xs b h = absurd (omega arith)
records_from_are (suc n) s xs b h =
    one_more n xs (λ t ys c k. records_from_are n t ys c (omega (arith, k, h))) (next_record plain_config s [] [] xs) (is_next s xs b)

pub records_are_split : (bytes : List ℕ) → records plain_config bytes ≡ split_records bytes
records_are_split bytes = records_from_are (length bytes + 1) st.StartRecord bytes (inl refl) (omega arith)
