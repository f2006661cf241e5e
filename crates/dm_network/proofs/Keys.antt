-- Look-ups by a key in a list whose keys ascend.
use Rattle.std.proofs.Common.{◌≡◌, ℕ, zero, suc, ◌+◌, ◌-◌, ◌<◌, ◌≤◌, true, false, eqb, ltb, List, [], ◌∷◌, length, map, get_or, refl, ap, ◌∙◌, subst, inl, inr, arith, Some, None, position}
use Rattle.std.specs.List.{position_or_len}
use Rattle.std.specs.List.Sorted.{IsStrictlyIncreasing, IsNonDecreasing, IsNonDecreasingBy, IsPartitionPoint}
use Rattle.std.proofs.lemmas.Option.{slice_get-get_or}
use Rattle.dm_network.specs.Build.{NoneStandsTwice}
use Rattle.std.proofs.lemmas.Bool.{cases_order, cases_eq, ltb-true, ltb-false, ne_eqb, eq-eqb, lt-ltb, le-ltb}
use Rattle.std.proofs.lemmas.List.{get_or-map, length-map}
use Rattle.std.proofs.lemmas.List.Sums.{position_or_len_is}

-- numbers that rise from each to the next rise from each to each later one
pub rises_far : (xs : List ℕ) → IsStrictlyIncreasing xs → (i n : ℕ) → i + suc n < length xs → get_or xs i 0 < get_or xs (i + suc n) 0
rises_far xs up i zero lt =
    let step = up i (omega arith) in
    let e : i + suc zero ≡ i + 1 = omega arith in
    rw e step
rises_far xs up i (suc n) lt =
    let before = rises_far xs up i n (omega arith) in
    let step = up (i + suc n) (omega arith) in
    let e : i + suc (suc n) ≡ i + suc n + 1 = omega arith in
    rw e (omega arith)

pub rises_between : (xs : List ℕ) → IsStrictlyIncreasing xs → (i j : ℕ) → i < j → j < length xs → get_or xs i 0 < get_or xs j 0
rises_between xs up i j lt in' =
    let n : ℕ = j - suc i in
    let e : i + suc n ≡ j = omega arith in
    subst (λ m. get_or xs i 0 < get_or xs m 0) e (rises_far xs up i n (omega arith))

module _ {X : Type 0} (key : X → ℕ) (xs : List X) (up : IsStrictlyIncreasing (map key xs)) where
  pub key_rises : (i j : ℕ) (d : X) → i < j → j < length xs → key (get_or xs i d) < key (get_or xs j d)
  key_rises i j d lt in' =
      let h = rises_between (map key xs) up i j lt (rw length-map in') in
      let a = get_or-map key xs i d 0 (omega arith) in
      let b = get_or-map key xs j d 0 in' in
      omega arith

  pub key_does_not_fall : IsNonDecreasingBy key xs
  key_does_not_fall i j d le in' =
      elim (cases_eq i j) [
        | inl same ↦ subst (λ m. key (get_or xs i d) ≤ key (get_or xs m d)) same (omega arith)
        | inr other ↦ let h = key_rises i j d (omega arith) in' in omega arith
      ]

  pub key_is_found : (k p : ℕ) (d : X) → p < length xs → key (get_or xs p d) ≡ k → position (λ x. eqb (key x) k) xs ≡ Some p
  key_is_found k p d in' is =
      let at : position_or_len (λ x. eqb (key x) k) xs ≡ p =
      position_or_len_is (λ x. eqb (key x) k) xs p d (omega arith)
      (λ j lt. let h = key_rises j p d lt in' in ne_eqb (key (get_or xs j d)) k (λ s. omega arith))
      (λ _. eq-eqb (key (get_or xs p d)) k is) in
      rw (at, lt-ltb p (length xs) in')

  key_is_absent : (k p : ℕ) (d : X) → p ≤ length xs →
      IsPartitionPoint (λ x. ltb (key x) k ≡ true) (λ x. ltb (key x) k ≡ false) xs p →
      (p < length xs → key (get_or xs p d) ≡ k → ⊥) → position (λ x. eqb (key x) k) xs ≡ None
  key_is_absent k p d le part other =
      let differs : (j : ℕ) → j < length xs → key (get_or xs j d) ≡ k → ⊥ =
      λ j lt same. elim (cases_order j p) [
        | inl here ↦ other (omega arith) (subst (λ m. key (get_or xs m d) ≡ k) here same)
        | inr (inl before) ↦
            let h = ltb-true (key (get_or xs j d)) k (part.0 j d (omega arith) before) in omega arith
        | inr (inr after) ↦
            let h = ltb-false (key (get_or xs p d)) k (part.1 p d (omega arith) (omega arith)) in
            let r = key_rises p j d after lt in
            omega arith
      ] in
      let at : position_or_len (λ x. eqb (key x) k) xs ≡ length xs =
      position_or_len_is (λ x. eqb (key x) k) xs (length xs) d (omega arith)
      (λ j lt. ne_eqb (key (get_or xs j d)) k (differs j lt))
      (λ lt. absurd (omega arith)) in
      rw (at, le-ltb (length xs) (length xs) (omega arith))

-- the same, of whatever value would stand past the end
pub key_is_nowhere : {X : Type 0} (key : X → ℕ) (xs : List X) → IsStrictlyIncreasing (map key xs) → (k p : ℕ) → p ≤ length xs →
    IsPartitionPoint (λ x. ltb (key x) k ≡ true) (λ x. ltb (key x) k ≡ false) xs p →
    ((d : X) → p < length xs → key (get_or xs p d) ≡ k → ⊥) → position (λ x. eqb (key x) k) xs ≡ None
key_is_nowhere key [] up k p le part other = refl
key_is_nowhere key (x ∷ xs) up k p le part other = key_is_absent key (x ∷ xs) up k p x le part (other x)

-- keys that do not fall along a list, as a list
pub keys_do_not_fall : {X : Type 0} (key : X → ℕ) (xs : List X) → IsNonDecreasingBy key xs → IsNonDecreasing (map key xs)
keys_do_not_fall key [] up i j d le lt = absurd (omega arith)
keys_do_not_fall key (x ∷ xs) up i j d le lt =
    let in' : j < length (x ∷ xs) = simp length-map at lt in
    let h = up i j x le in' in
    let a = get_or-map key (x ∷ xs) i x d (omega arith) in
    let b = get_or-map key (x ∷ xs) j x d in' in
    omega arith

-- numbers that do not fall and of which none stands twice rise
pub distinct_rises : (xs : List ℕ) → IsNonDecreasing xs → NoneStandsTwice xs → IsStrictlyIncreasing xs
distinct_rises xs up once k lt =
    elim (cases_eq (get_or xs k 0) (get_or xs (k + 1) 0)) [
      | inl tie ↦ absurd (once (get_or xs (k + 1) 0) (record {
        first = k;
        second = k + 1;
        apart = omega arith;
        at_first = slice_get-get_or xs k 0 (omega arith) ∙ ap Some tie;
        at_second = slice_get-get_or xs (k + 1) 0 lt;
      }))
      | inr other ↦ let h = up k (k + 1) 0 (omega arith) lt in omega arith
    ]
