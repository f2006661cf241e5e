-- Numbers that pass a test, moved behind the others.
use Rattle.std.proofs.Common.{◌≡◌, ℕ, zero, suc, ◌+◌, ◌-◌, ◌<◌, ◌≤◌, Bool, true, false, not, refl, ap, ◌∙◌, inl, inr, arith, add-one}
use Rattle.std.specs.Prelude.{if◌then◌else◌}
use Rattle.std.proofs.lemmas.Bool.{cases_Bool, cases_lt, not-true}
use Rattle.dm_order.specs.Inside.Shifting.{passing, failing, moved}

module _ (p : ℕ → Bool) where
  pub passing_next : (m : ℕ) → passing p (m + 1) ≡ passing p m + (if p m then 1 else 0)
  passing_next m = ap (passing p) (add-one m)

  pub passing_more : (m : ℕ) → p m ≡ true → passing p (m + 1) ≡ passing p m + 1
  passing_more m is = ap (passing p) (add-one m) ∙ ap (λ (b : Bool). passing p m + (if b then 1 else 0)) is

  pub passing_same : (m : ℕ) → p m ≡ false → passing p (m + 1) ≡ passing p m
  passing_same m is =
      let e : passing p (m + 1) ≡ passing p m + 0 = ap (passing p) (add-one m) ∙ ap (λ (b : Bool). passing p m + (if b then 1 else 0)) is in
      omega arith

  pub passing_rises : (i j : ℕ) → i ≤ j → passing p i ≤ passing p j
  passing_rises i zero le = let is : i ≡ 0 = omega arith in let e : passing p i ≡ passing p 0 = ap (passing p) is in omega arith
  passing_rises i (suc j) le =
      elim (cases_lt i (suc j)) [
        | inl lt ↦ let b = passing_rises i j (omega arith) in omega arith
        | inr ge ↦ let is : i ≡ suc j = omega arith in let e : passing p i ≡ passing p (suc j) = ap (passing p) is in omega arith
      ]

  pub passing_before : (i j : ℕ) → i < j → p i ≡ true → passing p i < passing p j
  passing_before i j lt is = let a = passing_more i is in let b = passing_rises (i + 1) j (omega arith) in omega arith

  -- one that passes, with so many before it
  record IsNthPassing (m j : ℕ) : Type 0 where
    pub i : ℕ
    pub below : i < m
    pub passes : p i ≡ true
    pub nth : passing p i ≡ j

  nth_passing : (m j : ℕ) → j < passing p m → IsNthPassing m j
  nth_passing zero j lt = absurd (omega arith)
  nth_passing (suc m) j lt =
      elim (cases_lt j (passing p m)) [
        | inl before ↦ let r = nth_passing m j before in let b = r.below in record { i = r.i; below = omega arith; passes = r.passes; nth = r.nth }
        | inr past ↦
            elim (cases_Bool (p m)) [
              | inl is ↦
                  let e = passing_more m is in
                  let f : passing p (m + 1) ≡ passing p (suc m) = ap (passing p) (add-one m) in
                  record { i = m; below = omega arith; passes = is; nth = omega arith }
              | inr is ↦
                  let e = passing_same m is in
                  let f : passing p (m + 1) ≡ passing p (suc m) = ap (passing p) (add-one m) in
                  absurd (omega arith)
            ]
      ]

-- what fails a test passes the other one
module _ (p : ℕ → Bool) where
  abbrev other : ℕ → Bool
  other i = not (p i)

  one_by_other : (b : Bool) (x y : ℕ) → x ≡ y → x + (if b then 0 else 1) ≡ y + (if not b then 1 else 0)
  one_by_other true x y same = omega arith
  one_by_other false x y same = omega arith

  failing_is : (m : ℕ) → failing p m ≡ passing other m
  failing_is zero = refl
  failing_is (suc m) = one_by_other (p m) (failing p m) (passing other m) (failing_is m)

  pub failing_next : (m : ℕ) → failing p (m + 1) ≡ failing p m + (if p m then 0 else 1)
  failing_next m = ap (failing p) (add-one m)

  pub failing_before : (i j : ℕ) → i < j → p i ≡ false → failing p i < failing p j
  failing_before i j lt is =
      let at_i = failing_is i in
      let at_j = failing_is j in
      let rise = passing_before other i j lt (ap not is) in
      omega arith

  -- each number passes or does not
  one_more : (b : Bool) (x y m : ℕ) → x + y ≡ m → (x + (if b then 1 else 0)) + (y + (if b then 0 else 1)) ≡ suc m
  one_more true x y m h = omega arith
  one_more false x y m h = omega arith

  pub all_counted : (m : ℕ) → passing p m + failing p m ≡ m
  all_counted zero = refl
  all_counted (suc m) = one_more (p m) (passing p m) (failing p m) m (all_counted m)

  module _ (count : ℕ) where
    pub moved_passing : (i : ℕ) → p i ≡ true → moved p count i ≡ failing p count + passing p i
    moved_passing i is = ap (λ (b : Bool). if b then failing p count + passing p i else failing p i) is

    pub moved_failing : (i : ℕ) → p i ≡ false → moved p count i ≡ failing p i
    moved_failing i is = ap (λ (b : Bool). if b then failing p count + passing p i else failing p i) is

    pub moved_below : (i : ℕ) → i < count → moved p count i < count
    moved_below i lt =
        let all = all_counted count in
        elim (cases_Bool (p i)) [
          | inl is ↦ let m = moved_passing i is in let b = passing_before p i count lt is in omega arith
          | inr is ↦ let m = moved_failing i is in let b = failing_before i count lt is in omega arith
        ]

    -- those that do not pass are before those that do
    pub moved_behind : (i j : ℕ) → i < count → p i ≡ false → p j ≡ true → moved p count i < moved p count j
    moved_behind i j lt fails passes =
        let m = moved_failing i fails in
        let n = moved_passing j passes in
        let b = failing_before i count lt fails in
        omega arith

    -- each kind stays in its order
    pub moved_rises : (i j : ℕ) → i < j → j < count → (p i ≡ true → p j ≡ true) → moved p count i < moved p count j
    moved_rises i j lt below carries =
        elim (cases_Bool (p i)) [
          | inl is ↦
              let m = moved_passing i is in
              let n = moved_passing j (carries is) in
              let b = passing_before p i j lt is in
              omega arith
          | inr is ↦
              elim (cases_Bool (p j)) [
                | inl passes ↦ moved_behind i j (omega arith) is passes
                | inr fails ↦
                    let m = moved_failing i is in
                    let n = moved_failing j fails in
                    let b = failing_before i j lt is in
                    omega arith
              ]
        ]

    pub moved_apart : (i j : ℕ) → i < j → j < count → moved p count i ≡ moved p count j → ⊥
    moved_apart i j lt below same =
        elim (cases_Bool (p j)) [
          | inl passes ↦ let r = moved_rises i j lt below (λ _. passes) in omega arith
          | inr fails ↦
              elim (cases_Bool (p i)) [
                | inl is ↦ let r = moved_behind j i below fails is in omega arith
                | inr not ↦ let r = moved_rises i j lt below (λ (is : p i ≡ true). absurd cc) in omega arith
              ]
        ]

    -- where each number comes from
    pub record ComesFrom (k : ℕ) : Type 0 where
      pub i : ℕ
      pub below : i < count
      pub is : moved p count i ≡ k

    pub comes_from : (k : ℕ) → k < count → ComesFrom k
    comes_from k lt =
        elim (cases_lt k (failing p count)) [
          | inl early ↦
              let all = failing_is count in
              let r = nth_passing other count k (omega arith) in
              record { i = r.i; below = r.below; is = moved_failing r.i (not-true (p r.i) r.passes) ∙ failing_is r.i ∙ r.nth }
          | inr late ↦
              let all = all_counted count in
              let r = nth_passing p count (k - failing p count) (omega arith) in
              let m = moved_passing r.i r.passes in
              let n = r.nth in
              record { i = r.i; below = r.below; is = omega arith }
        ]
