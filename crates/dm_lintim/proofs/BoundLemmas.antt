-- How many records a file has at most, and how many fields a record.
use Rattle.std.proofs.Common.{◌≡◌, ◌≤◌, ◌+◌, ℕ, suc, Bool, List, [], ◌∷◌, length, map, filter, refl, ap, inl, inr, arith}
use Rattle.std.specs.List.{AllByRecursion}
use Rattle.std.proofs.lemmas.Bool.{cases_Bool}
use Rattle.dm_lintim.specs.Pieces.{ends_line, filled_lines, is_filled, is_semicolon, pieces, put_first, split_records}
use Rattle.dm_lintim.proofs.PieceLemmas.{first_piece, more_pieces, pieces_are}

-- one more piece than there are bytes, at most
pieces_few : (cuts : ℕ → Bool) (xs : List ℕ) → length (pieces cuts xs) ≤ length xs + 1
unfolding pieces
pieces_few cuts [] = omega arith
pieces_few cuts (c ∷ cs) =
    let more = pieces_few cuts cs in
    let same : length (put_first c (pieces cuts cs)) ≡ length (pieces cuts cs) = rw (pieces_are cuts cs) refl in
    elim (cases_Bool (cuts c)) [ inl e ↦ rw e (omega arith) | inr e ↦ rw e (omega arith) ]

-- a piece has no more bytes than the text
first_within : (cuts : ℕ → Bool) (xs : List ℕ) → length (first_piece cuts xs) ≤ length xs
unfolding first_piece
first_within cuts [] = omega arith
first_within cuts (c ∷ cs) =
    let more = first_within cuts cs in
    elim (cases_Bool (cuts c)) [ inl e ↦ rw e (omega arith) | inr e ↦ rw e (omega arith) ]

abbrev IsWithin : ℕ → List ℕ → Type 0
IsWithin n p = length p ≤ n

pieces_within : (cuts : ℕ → Bool) (n : ℕ) (xs : List ℕ) → length xs ≤ n → AllByRecursion (IsWithin n) (pieces cuts xs)
unfolding pieces
pieces_within cuts n [] h = (omega arith, tt)
pieces_within cuts n (c ∷ cs) h =
    let more = pieces_within cuts n cs (omega arith) in
    let split = rw (pieces_are cuts cs) at more in
    let first = first_within cuts cs in
    elim (cases_Bool (cuts c)) [
      | inl e ↦ rw e (omega arith, more)
      | inr e ↦ rw (e, pieces_are cuts cs) (omega arith, split.1)
    ]

all_filter : (P : List ℕ → Type 0) (t : List ℕ → Bool) (xs : List (List ℕ)) → AllByRecursion P xs → AllByRecursion P (filter t xs)
all_filter P t [] h = tt
all_filter P t (x ∷ xs) h =
    let more = all_filter P t xs h.1 in
    elim (cases_Bool (t x)) [ inl e ↦ rw e (h.0, more) | inr e ↦ rw e more ]

-- the fields of each line
fields_within : (n : ℕ) (ls : List (List ℕ)) → AllByRecursion (IsWithin n) ls → AllByRecursion (λ (r : List (List ℕ)). length r ≤ n + 1) (map (pieces is_semicolon) ls)
fields_within n [] h = tt
fields_within n (l ∷ ls) h = (omega (arith, pieces_few is_semicolon l, h.0), fields_within n ls h.1)

abbrev pub HasFewFields : ℕ → List (List ℕ) → Type 0
HasFewFields n r = length r ≤ n + 1

pub fields_few : (bytes : List ℕ) → AllByRecursion (HasFewFields (length bytes)) (split_records bytes)
fields_few bytes =
    fields_within (length bytes) (filled_lines bytes) (all_filter (IsWithin (length bytes)) is_filled (pieces ends_line bytes) (pieces_within ends_line (length bytes) bytes (omega arith)))

-- a filled line has a byte of its own
filter-more : (p : List ℕ) (ps : List (List ℕ)) → length (filter is_filled ps) ≤ length (filter is_filled (p ∷ ps))
filter-more [] ps = omega arith
filter-more (c ∷ p) ps = omega arith

lines_few : (xs : List ℕ) → length (filled_lines xs) ≤ length xs
unfolding pieces
lines_few [] = omega arith
lines_few (c ∷ cs) =
    let more = lines_few cs in
    let split = rw (pieces_are ends_line cs) at more in
    let rest = filter-more (first_piece ends_line cs) (more_pieces ends_line cs) in
    elim (cases_Bool (ends_line c)) [
      | inl e ↦ rw e (omega arith)
      | inr e ↦ rw (e, pieces_are ends_line cs) (omega (arith, split, rest))
    ]

map-length : (ls : List (List ℕ)) → length (map (pieces is_semicolon) ls) ≡ length ls
map-length [] = refl
map-length (l ∷ ls) = ap suc (map-length ls)

pub records_few : (bytes : List ℕ) → length (split_records bytes) ≤ length bytes
records_few bytes = omega (arith, lines_few bytes, map-length (filled_lines bytes))
