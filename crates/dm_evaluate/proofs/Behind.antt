-- What passes a test from a place on, in a list of what passes, and what stands behind an element there.
use Rattle.std.proofs.Common.{◌≡◌, ℕ, zero, suc, ◌+◌, ◌<◌, ◌≤◌, Bool, true, false, List, ◌++◌, map, Some, refl, sym, ap, ◌∙◌, inl, inr, arith}
use Rattle.std.specs.Prelude.{filter, slice_get}
use Rattle.std.specs.List.{range_with_len}
use Rattle.std.proofs.lemmas.Bool.{cases_eq}

module _ {X : Type 0} (f : ℕ → X) (v : ℕ → Bool) (ys : List X) where
  -- of the n places from a on
  abbrev pub passing : ℕ → ℕ → List X
  passing a n = map f (filter v (range_with_len a n)) ++ ys

  pub first_passing : (a n i : ℕ) → a ≤ i → i < a + n → ((k : ℕ) → a ≤ k → k < i → v k ≡ false) → v i ≡ true → slice_get (passing a n) 0 ≡ Some (f i)
  first_passing a zero i from below none passes = absurd (omega arith)
  first_passing a (suc n) i from below none passes =
      elim (cases_eq i a) [
        | inl is ↦
            let here : v a ≡ true = ap v (sym is) ∙ passes in
            rw here (ap (λ (j : ℕ). Some (f j)) (sym is))
        | inr ne ↦
            let not : v a ≡ false = none a (omega arith) (omega arith) in
            rw not (first_passing (a + 1) n i (omega arith) (omega arith) (λ k ge lt. none k (omega arith) lt) passes)
      ]

  pub none_passing : (a n : ℕ) → ((k : ℕ) → a ≤ k → k < a + n → v k ≡ false) → passing a n ≡ ys
  none_passing a zero none = refl
  none_passing a (suc n) none =
      let not : v a ≡ false = none a (omega arith) (omega arith) in
      rw not (none_passing (a + 1) n (λ k ge lt. none k (omega arith) (omega arith)))
