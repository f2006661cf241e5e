-- A sum over places, place by place.
use Rattle.std.proofs.Common.{◌≡◌, ◌≢◌, ℕ, suc, ◌+◌, ◌-◌, ◌*◌, ◌<◌, ◌≤◌, ap, ◌∙◌, inl, inr, arith, zero, refl, sym}
use Rattle.std.specs.Prelude.{sum_by}
use Rattle.std.specs.List.{range_with_len}
use Rattle.std.proofs.lemmas.Bool.{cases_eq}
use Rattle.std.proofs.lemmas.List.Sums.{sum_by-cons}

-- the total over the first i of n places, where each adds at most so much
pub record IsTotalTo (f : ℕ → ℕ) (n most i total : ℕ) : Type 0 where
  pub sum : total + sum_by f (range_with_len i (n - i)) ≡ sum_by f (range_with_len 0 n)
  pub bound : total ≤ i * most

pub total_next : (f : ℕ → ℕ) (n most i total new : ℕ) → i < n → new ≤ most → new ≡ f i → IsTotalTo f n most i total → IsTotalTo f n most (i + 1) (total + new)
total_next f n most i total new lt le is t =
    let e : n - i ≡ suc (n - (i + 1)) = omega arith in
    let split : sum_by f (range_with_len i (n - i)) ≡ f i + sum_by f (range_with_len (i + 1) (n - (i + 1))) = ap (λ (k : ℕ). sum_by f (range_with_len i k)) e ∙ sum_by-cons f i (range_with_len (i + 1) (n - (i + 1))) in
    let old = t.sum in
    let bound = t.bound in
    record { sum = omega (arith, split, is, old); bound = omega arith }

pub sum_alike : (f g : ℕ → ℕ) (a n : ℕ) → ((k : ℕ) → a ≤ k → k < a + n → f k ≡ g k) → sum_by f (range_with_len a n) ≡ sum_by g (range_with_len a n)
sum_alike f g a zero same = refl
sum_alike f g a (suc n) same =
    let here : f a ≡ g a = same a (omega arith) (omega arith) in
    let rest : sum_by f (range_with_len (a + 1) n) ≡ sum_by g (range_with_len (a + 1) n) = sum_alike f g (a + 1) n (λ k le lt. same k (omega arith) (omega arith)) in
    let left = sum_by-cons f a (range_with_len (a + 1) n) in
    let right = sum_by-cons g a (range_with_len (a + 1) n) in
    left ∙ omega (arith, here, rest) ∙ sym right

pub sum_within : (f : ℕ → ℕ) (most a n : ℕ) → ((k : ℕ) → f k ≤ most) → sum_by f (range_with_len a n) ≤ n * most
sum_within f most a zero each = omega arith
sum_within f most a (suc n) each =
    let here = each a in
    let rest = sum_within f most (a + 1) n each in
    let all = sum_by-cons f a (range_with_len (a + 1) n) in
    omega (arith, here, rest, all)

-- a function that changes at one place
pub sum_moves : (f g : ℕ → ℕ) (i : ℕ) → ((k : ℕ) → k ≢ i → g k ≡ f k) → (a n : ℕ) → a ≤ i → i < a + n →
    sum_by g (range_with_len a n) + f i ≡ sum_by f (range_with_len a n) + g i
sum_moves f g i others a zero le lt = absurd (omega arith)
sum_moves f g i others a (suc n) le lt =
    let left : sum_by g (range_with_len a (suc n)) ≡ g a + sum_by g (range_with_len (a + 1) n) = sum_by-cons g a (range_with_len (a + 1) n) in
    let right : sum_by f (range_with_len a (suc n)) ≡ f a + sum_by f (range_with_len (a + 1) n) = sum_by-cons f a (range_with_len (a + 1) n) in
    elim (cases_eq a i) [
      | inl is ↦
          let rest : sum_by g (range_with_len (a + 1) n) ≡ sum_by f (range_with_len (a + 1) n) =
          sum_alike g f (a + 1) n (λ k from below. others k (λ same. absurd (omega arith))) in
          let one : g a ≡ g i = ap g is in
          let other : f a ≡ f i = ap f is in
          omega (arith, left, right, rest, one, other)
      | inr ne ↦
          let here : g a ≡ f a = others a ne in
          let rest = sum_moves f g i others (a + 1) n (omega arith) (omega arith) in
          omega (arith, left, right, rest, here)
    ]
