-- Sums over a list of which one place changes.
use Rattle.std.proofs.Common.{◌≡◌, ◌≢◌, ◌⊎◌, ℕ, zero, suc, ◌+◌, ◌≤◌, List, [], ◌∷◌, set, refl, ap, sym, subst, arith, inl, inr, ⊎_elim}
use Rattle.std.specs.List.{sum_by}
use Rattle.std.proofs.lemmas.List.Sums.{sum_by-cons}
use mathlib.Core.Option.{some, some-injective, some-ne-none}
use lib.ListN.{get_elem?}

module _ {A : Type 0} where
  pub set_there : (l : List A) (i : ℕ) (v w : A) → get_elem? l i ≡ some v → get_elem? (set l i w) i ≡ some w
  set_there [] i v w e = absurd (some-ne-none v (sym e))
  set_there (x ∷ xs) zero v w e = refl
  set_there (x ∷ xs) (suc i) v w e = set_there xs i v w e

  at_set : (l : List A) (i j : ℕ) (v u : A) → get_elem? (set l i v) j ≡ some u → ((j ≡ i) × (v ≡ u)) ⊎ ((j ≢ i) × (get_elem? l j ≡ some u))
  at_set [] i j v u e = absurd (some-ne-none u (sym e))
  at_set (x ∷ xs) zero zero v u e = inl (refl, some-injective v u e)
  at_set (x ∷ xs) zero (suc j) v u e = inr ((λ h. omega arith), e)
  at_set (x ∷ xs) (suc i) zero v u e = inr ((λ h. omega arith), e)
  at_set (x ∷ xs) (suc i) (suc j) v u e = ⊎_elim (λ t. inl (ap suc t.0, t.1)) (λ t. let n = t.0 in inr ((λ h. n (omega arith)), t.1)) (at_set xs i j v u e)

  -- what holds of each element still holds of each, where it holds of the new one
  pub each_set : (Q : A → Type 0) (l : List A) (i : ℕ) (w : A) → ((j : ℕ) (u : A) → j ≢ i → get_elem? l j ≡ some u → Q u) → Q w
      → (j : ℕ) (u : A) → get_elem? (set l i w) j ≡ some u → Q u
  each_set Q l i w others new j u e = ⊎_elim (λ t. subst Q t.1 new) (λ t. others j u t.0 t.1) (at_set l i j w u e)

  module _ (f : A → ℕ) where
    pub sum_set : (l : List A) (i : ℕ) (v w : A) → get_elem? l i ≡ some v → sum_by f (set l i w) + f v ≡ sum_by f l + f w
    sum_set [] i v w e = absurd (some-ne-none v (sym e))
    sum_set (x ∷ xs) zero v w e = let is : f x ≡ f v = ap f (some-injective x v e) in omega (arith, is, sum_by-cons f x xs, sum_by-cons f w xs)
    sum_set (x ∷ xs) (suc i) v w e = omega (arith, sum_set xs i v w e, sum_by-cons f x xs, sum_by-cons f x (set xs i w))

    pub sum_at : (l : List A) (i : ℕ) (v : A) → get_elem? l i ≡ some v → f v ≤ sum_by f l
    sum_at [] i v e = absurd (some-ne-none v (sym e))
    sum_at (x ∷ xs) zero v e = let is : f x ≡ f v = ap f (some-injective x v e) in omega (arith, is, sum_by-cons f x xs)
    sum_at (x ∷ xs) (suc i) v e = omega (arith, sum_at xs i v e, sum_by-cons f x xs)

    pub sum_two : (l : List A) (i j : ℕ) (v u : A) → get_elem? l i ≡ some v → get_elem? l j ≡ some u → j ≢ i → f v + f u ≤ sum_by f l
    sum_two [] i j v u a b ne = absurd (some-ne-none v (sym a))
    sum_two (x ∷ xs) zero zero v u a b ne = absurd (ne refl)
    sum_two (x ∷ xs) zero (suc j) v u a b ne = let is : f x ≡ f v = ap f (some-injective x v a) in omega (arith, is, sum_at xs j u b, sum_by-cons f x xs)
    sum_two (x ∷ xs) (suc i) zero v u a b ne = let is : f x ≡ f u = ap f (some-injective x u b) in omega (arith, is, sum_at xs i v a, sum_by-cons f x xs)
    sum_two (x ∷ xs) (suc i) (suc j) v u a b ne = omega (arith, sum_two xs i j v u a b (λ e. ne (ap suc e)), sum_by-cons f x xs)

  -- of two measures the smaller has the smaller sum
  pub sums_le : (f g : A → ℕ) (l : List A) → ((j : ℕ) (u : A) → get_elem? l j ≡ some u → f u ≤ g u) → sum_by f l ≤ sum_by g l
  sums_le f g [] le = omega arith
  sums_le f g (x ∷ xs) le = omega (arith, le zero x refl, sums_le f g xs (λ j u e. le (suc j) u e), sum_by-cons f x xs, sum_by-cons g x xs)

  -- and where it is smaller by d at one place, by d in all
  pub sums_apart : (f g : A → ℕ) (l : List A) (i : ℕ) (v : A) (d : ℕ) → get_elem? l i ≡ some v → f v + d ≤ g v
      → ((j : ℕ) (u : A) → get_elem? l j ≡ some u → f u ≤ g u) → sum_by f l + d ≤ sum_by g l
  sums_apart f g [] i v d e apart le = absurd (some-ne-none v (sym e))
  sums_apart f g (x ∷ xs) zero v d e apart le = let is : x ≡ v = some-injective x v e in
      let rest = sums_le f g xs (λ j u h. le (suc j) u h) in let left : f x ≡ f v = ap f is in let right : g x ≡ g v = ap g is in
      omega (arith, left, right, apart, rest, sum_by-cons f x xs, sum_by-cons g x xs)
  sums_apart f g (x ∷ xs) (suc i) v d e apart le =
      omega (arith, le zero x refl, sums_apart f g xs i v d e apart (λ j u h. le (suc j) u h), sum_by-cons f x xs, sum_by-cons g x xs)

  none_left : (f room : A → ℕ) (l : List A) → ((j : ℕ) (u : A) → get_elem? l j ≡ some u → (f u ≡ 0) ⊎ (1 ≤ room u)) → sum_by room l ≡ 0 → sum_by f l ≡ 0
  none_left f room [] each zero_room = refl
  none_left f room (x ∷ xs) each zero_room =
      let c = sum_by-cons room x xs in
      let here : f x ≡ 0 = ⊎_elim (λ e. e) (λ some_room. absurd (omega (arith, c, zero_room, some_room))) (each zero x refl) in
      omega (arith, here, none_left f room xs (λ j u e. each (suc j) u e) (omega (arith, c, zero_room)), sum_by-cons f x xs)

  -- where one element has all the room, it has all of any measure that elements without room have none of
  pub sum_lone : (f room : A → ℕ) (l : List A) (i : ℕ) (v : A) → get_elem? l i ≡ some v
      → ((j : ℕ) (u : A) → get_elem? l j ≡ some u → (f u ≡ 0) ⊎ (1 ≤ room u)) → sum_by room l ≡ room v → sum_by f l ≡ f v
  sum_lone f room [] i v e each all = absurd (some-ne-none v (sym e))
  sum_lone f room (x ∷ xs) zero v e each all = let is : x ≡ v = some-injective x v e in
      let rooms : room x ≡ room v = ap room is in let here : f x ≡ f v = ap f is in
      omega (arith, here, sum_by-cons f x xs, none_left f room xs (λ j u h. each (suc j) u h) (omega (arith, rooms, all, sum_by-cons room x xs)))
  sum_lone f room (x ∷ xs) (suc i) v e each all =
      let c = sum_by-cons room x xs in let there = sum_at room xs i v e in
      let here : f x ≡ 0 = ⊎_elim (λ h. h) (λ some_room. absurd (omega (arith, c, all, there, some_room))) (each zero x refl) in
      let at_most : sum_by room xs ≡ room v = omega (arith, c, all, there) in
      omega (arith, here, sum_lone f room xs i v e (λ j u h. each (suc j) u h) at_most, sum_by-cons f x xs)
