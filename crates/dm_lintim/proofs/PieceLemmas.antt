-- The pieces of a text: the first one and the others.
use Rattle.std.proofs.Common.{◌≡◌, ◌≤◌, ◌<◌, ◌+◌, ℕ, zero, suc, Bool, true, false, cond, List, [], ◌∷◌, length, take, drop, get_or, refl, inl, inr, arith}
use Rattle.std.proofs.lemmas.Bool.{cases_Bool, ne_eqb}
use Rattle.dm_lintim.specs.Pieces.{is_comma, pieces}

-- what stands before the first byte that cuts
unfoldable pub first_piece : (ℕ → Bool) → List ℕ → List ℕ
first_piece cuts [] = []
first_piece cuts (c ∷ cs) = cond (cuts c) [] (c ∷ first_piece cuts cs)

-- the pieces after the first byte that cuts
unfoldable pub more_pieces : (ℕ → Bool) → List ℕ → List (List ℕ)
more_pieces cuts [] = []
more_pieces cuts (c ∷ cs) = cond (cuts c) (pieces cuts cs) (more_pieces cuts cs)

-- what stands after the first byte that cuts
unfoldable pub after_piece : (ℕ → Bool) → List ℕ → List ℕ
after_piece cuts [] = []
after_piece cuts (c ∷ cs) = cond (cuts c) cs (after_piece cuts cs)

pub pieces_are : (cuts : ℕ → Bool) (xs : List ℕ) → pieces cuts xs ≡ first_piece cuts xs ∷ more_pieces cuts xs
unfolding pieces first_piece more_pieces
pieces_are cuts [] = refl
pieces_are cuts (c ∷ cs) = elim (cases_Bool (cuts c)) [ inl e ↦ rw e refl | inr e ↦ rw (e, pieces_are cuts cs) refl ]

pub after_piece-short : (cuts : ℕ → Bool) (xs : List ℕ) → length (after_piece cuts xs) ≤ length xs
unfolding after_piece
after_piece-short cuts [] = omega arith
after_piece-short cuts (c ∷ cs) =
    let more = after_piece-short cuts cs in
    elim (cases_Bool (cuts c)) [ inl e ↦ rw e (omega arith) | inr e ↦ rw e (omega arith) ]

-- the first piece ends at the first byte that cuts
pub pieces_cut : (cuts : ℕ → Bool) (xs : List ℕ) (i : ℕ) → i < length xs → ((k : ℕ) → k < i → cuts (get_or xs k 0) ≡ false) → cuts (get_or xs i 0) ≡ true
    → pieces cuts xs ≡ take i xs ∷ pieces cuts (drop (i + 1) xs)
unfolding pieces
pieces_cut cuts [] i h before here = absurd (omega arith)
pieces_cut cuts (c ∷ cs) zero h before here = rw here refl
pieces_cut cuts (c ∷ cs) (suc i) h before here =
    let first = before 0 (omega arith) in
    let more = pieces_cut cuts cs i (omega arith) (λ k below. before (suc k) (omega arith)) here in
    let step : suc i + 1 ≡ suc (i + 1) = omega arith in
    rw (first, more, step) refl

-- where no byte cuts, the text is one piece
pub pieces_whole : (cuts : ℕ → Bool) (xs : List ℕ) → ((k : ℕ) → k < length xs → cuts (get_or xs k 0) ≡ false) → pieces cuts xs ≡ xs ∷ []
unfolding pieces
pieces_whole cuts [] none = refl
pieces_whole cuts (c ∷ cs) none =
    let first = none 0 (omega arith) in
    let more = pieces_whole cuts cs (λ k below. none (suc k) (omega arith)) in
    rw (first, more) refl

-- where no byte is a comma
pub no_comma : (xs : List ℕ) (n : ℕ) → ((k : ℕ) → k < n → get_or xs k 0 ≡ 44 → ⊥) → (k : ℕ) → k < n → is_comma (get_or xs k 0) ≡ false
no_comma xs n none k below = ne_eqb (get_or xs k 0) 44 (none k below)
