-- Sums over places, and how they change where a function changes at one place or along rows.
use Rattle.std.proofs.Common.{◌≡◌, ℕ, zero, suc, ◌+◌, ◌<◌, ◌≤◌, Bool, true, false, cond, List, [], ◌∷◌, length, slice_index, filter, sum_by, refl, ap, ◌∙◌, inl, inr, arith}
use Rattle.std.specs.List.{range_with_len}
use Rattle.std.proofs.lemmas.Bool.{cases_Bool}
use Rattle.std.proofs.lemmas.List.Sums.{sum_by-cons}
use Rattle.dm_priced.specs.Inside.Adding.{IsTotalBelow}

pub sum_none : (f : ℕ → ℕ) (xs : List ℕ) → ((k : ℕ) → f k ≡ 0) → sum_by f xs ≡ 0
sum_none f [] none = refl
sum_none f (x ∷ xs) none = let here = none x in let rest = sum_none f xs none in let all = sum_by-cons f x xs in all ∙ omega (arith, here, rest)

-- a function that is 0 at each place of a row
pub sum_none_on : (f : ℕ → ℕ) (xs : List ℕ) → ((k : ℕ) → k < length xs → f (slice_index xs k) ≡ 0) → sum_by f xs ≡ 0
sum_none_on f [] none = refl
sum_none_on f (x ∷ xs) none =
    let here = none zero (omega arith) in
    let rest = sum_none_on f xs (λ k lt. none (suc k) (omega arith)) in
    let all = sum_by-cons f x xs in
    all ∙ omega (arith, here, rest)

-- what an element adds where it passes a test
added : (f : ℕ → ℕ) (p : ℕ → Bool) (x : ℕ) (xs : List ℕ) (b : Bool) → p x ≡ b → sum_by f (filter p (x ∷ xs)) ≡ cond b (f x) 0 + sum_by f (filter p xs)
added f p x xs true is = ap (λ (b : Bool). sum_by f (cond b (x ∷ filter p xs) (filter p xs))) is ∙ sum_by-cons f x (filter p xs)
added f p x xs false is = ap (λ (b : Bool). sum_by f (cond b (x ∷ filter p xs) (filter p xs))) is ∙ omega arith

-- a function that is 0 along a row
pub sum_none_along : (f : ℕ → ℕ) (p : ℕ → Bool) → ((k : ℕ) → p k ≡ true → f k ≡ 0) → (xs : List ℕ) → sum_by f (filter p xs) ≡ 0
sum_none_along f p none [] = refl
sum_none_along f p none (x ∷ xs) =
    let rest = sum_none_along f p none xs in
    elim (cases_Bool (p x)) [
      | inl is ↦ omega (arith, added f p x xs true is, none x is, rest)
      | inr not ↦ omega (arith, added f p x xs false not, rest)
    ]

-- a function that changes along one row
pub sum_moves_row : (f g : ℕ → ℕ) (p : ℕ → Bool) → ((k : ℕ) → p k ≡ false → g k ≡ f k) → (xs : List ℕ) →
    sum_by g xs + sum_by f (filter p xs) ≡ sum_by f xs + sum_by g (filter p xs)
sum_moves_row f g p others [] = refl
sum_moves_row f g p others (x ∷ xs) =
    let left : sum_by g (x ∷ xs) ≡ g x + sum_by g xs = sum_by-cons g x xs in
    let right : sum_by f (x ∷ xs) ≡ f x + sum_by f xs = sum_by-cons f x xs in
    let rest = sum_moves_row f g p others xs in
    elim (cases_Bool (p x)) [
      | inl is ↦
          let one : sum_by f (filter p (x ∷ xs)) ≡ f x + sum_by f (filter p xs) = added f p x xs true is in
          let other : sum_by g (filter p (x ∷ xs)) ≡ g x + sum_by g (filter p xs) = added g p x xs true is in
          omega (arith, left, right, rest, one, other)
      | inr not ↦
          let same : g x ≡ f x = others x not in
          let one : sum_by f (filter p (x ∷ xs)) ≡ 0 + sum_by f (filter p xs) = added f p x xs false not in
          let other : sum_by g (filter p (x ∷ xs)) ≡ 0 + sum_by g (filter p xs) = added g p x xs false not in
          omega (arith, left, right, rest, one, other, same)
    ]

-- a function that changes along two rows, and not where they meet
pub sum_moves_rows : (f g : ℕ → ℕ) (p q : ℕ → Bool) → ((k : ℕ) → p k ≡ false → q k ≡ false → g k ≡ f k) → ((k : ℕ) → p k ≡ true → q k ≡ true → g k ≡ f k) →
    (xs : List ℕ) → sum_by g xs + (sum_by f (filter p xs) + sum_by f (filter q xs)) ≡ sum_by f xs + (sum_by g (filter p xs) + sum_by g (filter q xs))
sum_moves_rows f g p q others both [] = refl
sum_moves_rows f g p q others both (x ∷ xs) =
    let left : sum_by g (x ∷ xs) ≡ g x + sum_by g xs = sum_by-cons g x xs in
    let right : sum_by f (x ∷ xs) ≡ f x + sum_by f xs = sum_by-cons f x xs in
    let rest = sum_moves_rows f g p q others both xs in
    elim (cases_Bool (p x)) [
      | inl p_is ↦
          let pf : sum_by f (filter p (x ∷ xs)) ≡ f x + sum_by f (filter p xs) = added f p x xs true p_is in
          let pg : sum_by g (filter p (x ∷ xs)) ≡ g x + sum_by g (filter p xs) = added g p x xs true p_is in
          elim (cases_Bool (q x)) [
            | inl q_is ↦
                let same : g x ≡ f x = both x p_is q_is in
                let qf : sum_by f (filter q (x ∷ xs)) ≡ f x + sum_by f (filter q xs) = added f q x xs true q_is in
                let qg : sum_by g (filter q (x ∷ xs)) ≡ g x + sum_by g (filter q xs) = added g q x xs true q_is in
                omega (arith, left, right, rest, pf, pg, qf, qg, same)
            | inr q_not ↦
                let qf : sum_by f (filter q (x ∷ xs)) ≡ 0 + sum_by f (filter q xs) = added f q x xs false q_not in
                let qg : sum_by g (filter q (x ∷ xs)) ≡ 0 + sum_by g (filter q xs) = added g q x xs false q_not in
                omega (arith, left, right, rest, pf, pg, qf, qg)
          ]
      | inr p_not ↦
          let pf : sum_by f (filter p (x ∷ xs)) ≡ 0 + sum_by f (filter p xs) = added f p x xs false p_not in
          let pg : sum_by g (filter p (x ∷ xs)) ≡ 0 + sum_by g (filter p xs) = added g p x xs false p_not in
          elim (cases_Bool (q x)) [
            | inl q_is ↦
                let qf : sum_by f (filter q (x ∷ xs)) ≡ f x + sum_by f (filter q xs) = added f q x xs true q_is in
                let qg : sum_by g (filter q (x ∷ xs)) ≡ g x + sum_by g (filter q xs) = added g q x xs true q_is in
                omega (arith, left, right, rest, pf, pg, qf, qg)
            | inr q_not ↦
                let same : g x ≡ f x = others x p_not q_not in
                let qf : sum_by f (filter q (x ∷ xs)) ≡ 0 + sum_by f (filter q xs) = added f q x xs false q_not in
                let qg : sum_by g (filter q (x ∷ xs)) ≡ 0 + sum_by g (filter q xs) = added g q x xs false q_not in
                omega (arith, left, right, rest, pf, pg, qf, qg, same)
          ]
    ]

-- a total over the places before one
sum_last : (f : ℕ → ℕ) (a n : ℕ) → sum_by f (range_with_len a (suc n)) ≡ sum_by f (range_with_len a n) + f (a + n)
sum_last f a zero =
    let one : sum_by f (range_with_len a 1) ≡ f a + sum_by f (range_with_len (a + 1) 0) = sum_by-cons f a [] in
    let here : f (a + 0) ≡ f a = ap f (omega arith) in
    omega (arith, one, here)
sum_last f a (suc n) =
    let left : sum_by f (range_with_len a (suc (suc n))) ≡ f a + sum_by f (range_with_len (a + 1) (suc n)) = sum_by-cons f a (range_with_len (a + 1) (suc n)) in
    let rest = sum_last f (a + 1) n in
    let right : sum_by f (range_with_len a (suc n)) ≡ f a + sum_by f (range_with_len (a + 1) n) = sum_by-cons f a (range_with_len (a + 1) n) in
    let here : f (a + 1 + n) ≡ f (a + suc n) = ap f (omega arith) in
    omega (arith, left, rest, right, here)

pub below_next : (f : ℕ → ℕ) (n most total new : ℕ) → new ≤ most → new ≡ f n → IsTotalBelow f n most total → IsTotalBelow f (n + 1) most (total + new)
below_next f n most total new le is t =
    let more = sum_last f 0 n in
    let next : sum_by f (range_with_len 0 (n + 1)) ≡ sum_by f (range_with_len 0 (suc n)) =
    let same : n + 1 ≡ suc n = omega arith in ap (λ (k : ℕ). sum_by f (range_with_len 0 k)) same in
    let here : f (0 + n) ≡ f n = ap f (omega arith) in
    let sum = t.sum in
    let bound = t.bound in
    record { sum = omega (arith, more, next, sum, is, here); bound = omega (arith, bound, le) }
