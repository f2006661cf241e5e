-- Numbers that stand twice in a list.
use Rattle.std.proofs.Common.{◌≡◌, ℕ, zero, suc, ◌+◌, ◌-◌, ◌<◌, ◌≤◌, cond, eqb, List, [], ◌∷◌, length, map, get_or, refl, sym, ap, ◌∙◌, subst, inl, inr, arith, Some, None, Option, MatchOption, slice_get}
use Rattle.std.specs.List.{sum_by}
use Rattle.std.specs.List.Sorted.{IsNonDecreasing, IsPermutation}
use Rattle.std.proofs.lemmas.Bool.{cases_lt, cases_Bool, eqb-true, eq-eqb}
use Rattle.std.proofs.lemmas.Option.{slice_get_within, slice_get-get_or, get_or_from_slice_get}
use Rattle.std.proofs.lemmas.List.{get_or-map}
use Rattle.std.proofs.lemmas.List.Sums.{sum_by-cons}
use Rattle.std.proofs.lemmas.List.Sorted.{sum_by-IsPermutation, IsPermutation-sym}
use Rattle.dm_network.specs.Build.{StandsTwice, NoneStandsTwice, IsLeastDouble}

-- the first numbers rise from each to the next
abbrev pub FrontRises : List ℕ → ℕ → Type 0
FrontRises xs i = (k : ℕ) → k + 1 < i → get_or xs k 0 < get_or xs (k + 1) 0

front_rises_far : (xs : List ℕ) (i : ℕ) → FrontRises xs i → (j n : ℕ) → j + suc n < i → get_or xs j 0 < get_or xs (j + suc n) 0
front_rises_far xs i up j zero lt =
    let step = up j (omega arith) in
    let e : j + suc zero ≡ j + 1 = omega arith in
    rw e step
front_rises_far xs i up j (suc n) lt =
    let before = front_rises_far xs i up j n (omega arith) in
    let step = up (j + suc n) (omega arith) in
    let e : j + suc (suc n) ≡ j + suc n + 1 = omega arith in
    rw e (omega arith)

front_rises_to : (xs : List ℕ) (i : ℕ) → FrontRises xs i → (j k : ℕ) → j < k → k < i → get_or xs j 0 < get_or xs k 0
front_rises_to xs i up j k lt below =
    let n : ℕ = k - suc j in
    let e : j + suc n ≡ k = omega arith in
    subst (λ m. get_or xs j 0 < get_or xs m 0) e (front_rises_far xs i up j n (omega arith))

-- in numbers that do not fall, the first that is equal to the one before it is the least that stands twice
pub tie_is_least : (xs : List ℕ) (i : ℕ) → IsNonDecreasing xs → FrontRises xs i → 0 < i → i < length xs →
    get_or xs (i - 1) 0 ≡ get_or xs i 0 → IsLeastDouble xs (get_or xs i 0)
tie_is_least xs i up front some in' tie = record {
  twice = record {
    first = i - 1;
    second = i;
    apart = omega arith;
    at_first = slice_get-get_or xs (i - 1) 0 (omega arith) ∙ ap Some tie;
    at_second = slice_get-get_or xs i 0 in';
  };
  least = λ other t.
      let a = get_or_from_slice_get xs t.first other 0 t.at_first in
      let b = get_or_from_slice_get xs t.second other 0 t.at_second in
      let w = slice_get_within xs t.second other t.at_second in
      let o = t.apart in
      elim (cases_lt t.second i) [
        | inl lt ↦ let r = front_rises_to xs i front t.first t.second o lt in absurd (omega arith)
        | inr le ↦ let r = up i t.second 0 le w in omega arith
      ];
}

pub none_stands_twice : (xs : List ℕ) (i : ℕ) → FrontRises xs i → length xs ≤ i → NoneStandsTwice xs
none_stands_twice xs i front all id t =
    let a = get_or_from_slice_get xs t.first id 0 t.at_first in
    let b = get_or_from_slice_get xs t.second id 0 t.at_second in
    let w = slice_get_within xs t.second id t.at_second in
    let o = t.apart in
    let r = front_rises_to xs i front t.first t.second o (omega arith) in
    omega arith

-- the first numbers rise, and each is below the least that the next one may be
pub record RisesTo (xs : List ℕ) (i least : ℕ) : Type 0 where
  pub front : FrontRises xs i
  pub below : (k : ℕ) → k < i → get_or xs k 0 < least

pub rises_more : {X : Type 0} (number : X → ℕ) (items : List X) (i least : ℕ) (x : X) (n : ℕ) → RisesTo (map number items) i least → i < length items →
    x ≡ get_or items i x → n ≡ number x → least ≤ n → RisesTo (map number items) (i + 1) (n + 1)
rises_more number items i least x n rises lt is value le =
    let here : get_or (map number items) i 0 ≡ n = get_or-map number items i x 0 lt ∙ ap number (sym is) ∙ sym value in
    record {
      front = λ k up.
          elim (cases_lt (k + 1) i) [
            | inl before ↦ rises.front k before
            | inr past ↦
                let e : k + 1 ≡ i = omega arith in
                let low = rises.below k (omega arith) in
                rw e (omega (arith, here, low, le))
          ];
      below = λ k lt.
          elim (cases_lt k i) [
            | inl before ↦ let low = rises.below k before in omega (arith, low, le)
            | inr past ↦
                let e : k ≡ i = omega arith in
                rw e (omega (arith, here))
          ];
    }

abbrev pub one_at : ℕ → ℕ → ℕ
one_at id x = cond (eqb x id) 1 0

module _ (id : ℕ) where
  counted_once : (xs : List ℕ) (k : ℕ) → slice_get xs k ≡ Some id → 1 ≤ sum_by (one_at id) xs
  counted_once [] k h = cc
  counted_once (x ∷ xs) zero h =
      let is : x ≡ id = cc in
      let e = eq-eqb x id is in
      let s = sum_by-cons (one_at id) x xs in
      let one : one_at id x ≡ 1 = rw e refl in
      omega arith
  counted_once (x ∷ xs) (suc k) h =
      let more = counted_once xs k h in
      let s = sum_by-cons (one_at id) x xs in
      omega arith

  counted_twice : (xs : List ℕ) (j k : ℕ) → j < k → slice_get xs j ≡ Some id → slice_get xs k ≡ Some id → 2 ≤ sum_by (one_at id) xs
  counted_twice [] j k lt g h = cc
  counted_twice (x ∷ xs) j zero lt g h = absurd (omega arith)
  counted_twice (x ∷ xs) zero (suc k) lt g h =
      let is : x ≡ id = cc in
      let e = eq-eqb x id is in
      let s = sum_by-cons (one_at id) x xs in
      let one : one_at id x ≡ 1 = rw e refl in
      let more = counted_once xs k h in
      omega arith
  counted_twice (x ∷ xs) (suc j) (suc k) lt g h =
      let more = counted_twice xs j k (omega arith) g h in
      let s = sum_by-cons (one_at id) x xs in
      omega arith

  once_from_count : (xs : List ℕ) → 1 ≤ sum_by (one_at id) xs → (k : ℕ) × (slice_get xs k ≡ Some id)
  once_from_count [] h = absurd (omega arith)
  once_from_count (x ∷ xs) h =
      elim (cases_Bool (eqb x id)) [
        | inl same ↦ (0, ap Some (eqb-true x id same))
        | inr other ↦
            let s = sum_by-cons (one_at id) x xs in
            let none : one_at id x ≡ 0 = rw other refl in
            let r = once_from_count xs (omega arith) in
            (suc r.0, r.1)
      ]

  twice_from_count : (xs : List ℕ) → 2 ≤ sum_by (one_at id) xs → StandsTwice xs id
  twice_from_count [] h = absurd (omega arith)
  twice_from_count (x ∷ xs) h =
      elim (cases_Bool (eqb x id)) [
        | inl same ↦
            let s = sum_by-cons (one_at id) x xs in
            let one : one_at id x ≡ 1 = rw same refl in
            let r = once_from_count xs (omega arith) in
            record { first = 0; second = suc r.0; apart = omega arith; at_first = ap Some (eqb-true x id same); at_second = r.1 }
        | inr other ↦
            let s = sum_by-cons (one_at id) x xs in
            let none : one_at id x ≡ 0 = rw other refl in
            let r = twice_from_count xs (omega arith) in
            let a = r.apart in
            record { first = suc r.first; second = suc r.second; apart = omega arith; at_first = r.at_first; at_second = r.at_second }
      ]

  pub StandsTwice-permutation : (xs ys : List ℕ) → IsPermutation xs ys → StandsTwice xs id → StandsTwice ys id
  StandsTwice-permutation xs ys p t =
      let n = counted_twice xs t.first t.second t.apart t.at_first t.at_second in
      let s = sum_by-IsPermutation (one_at id) xs ys p in
      twice_from_count ys (omega arith)

pub NoneStandsTwice-permutation : (xs ys : List ℕ) → IsPermutation xs ys → NoneStandsTwice ys → NoneStandsTwice xs
NoneStandsTwice-permutation xs ys p none id t = none id (StandsTwice-permutation id xs ys p t)

pub IsLeastDouble-permutation : (xs ys : List ℕ) → IsPermutation xs ys → (id : ℕ) → IsLeastDouble ys id → IsLeastDouble xs id
IsLeastDouble-permutation xs ys p id h = record {
  twice = StandsTwice-permutation id ys xs (IsPermutation-sym xs ys p) h.twice;
  least = λ other t. h.least other (StandsTwice-permutation other xs ys p t);
}

pub double_through : (xs ys : List ℕ) → IsPermutation xs ys → (r : Option ℕ) →
    MatchOption r (NoneStandsTwice ys) (λ id. IsLeastDouble ys id) → MatchOption r (NoneStandsTwice xs) (λ id. IsLeastDouble xs id)
double_through xs ys p None h = NoneStandsTwice-permutation xs ys p h
double_through xs ys p (Some id) h = IsLeastDouble-permutation xs ys p id h
