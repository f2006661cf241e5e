-- Steps one behind the other: some of them, and then the others.
use Rattle.std.proofs.Common.{◌≡◌, ℕ, zero, suc, ◌+◌, List, [], ◌∷◌, ◌++◌, length, Result, Ok, Err, refl, sym, subst, ◌∙◌, inr, arith, append-nil, append_assoc}
use Rattle.dm_text.specs.Places.{Place}
use Rattle.dm_text.specs.Judging.{Then, Times}

pub goes_on : {V W F : Type 0} (first : Place → Result (V × Place) F → Type 0) (next : V → Place → Result (W × Place) F → Type 0) (place behind : Place) (v : V) (answer : Result (W × Place) F) →
    first place (Ok (v, behind)) → next v behind answer → Then first next place answer
goes_on first next place behind v (Ok w) told more = record { value = v; behind = behind; told = told; then = more }
goes_on first next place behind v (Err halt) told more = inr (record { value = v; behind = behind; told = told; then = more })

module _ {V F : Type 0} (step : List V → Place → Result (V × Place) F → Type 0) where
  -- what is told of the others behind some is told of all
  pub times_then : (n k total : ℕ) (before mid : List V) (p q : Place) (answer : Result (List V × Place) F) → n + k ≡ total → Times n step before p (Ok (mid, q)) → Times k step mid q answer →
      Times total step before p answer
  times_then zero k total before mid p q answer e one more =
      let same : k ≡ total = omega (arith, e) in
      subst (λ (m : ℕ). Times m step before p answer) same
      (subst (λ (xs : List V). Times k step xs p answer) one.0 (subst (λ (r : Place). Times k step mid r answer) one.1 more))
  times_then (suc n) k zero before mid p q answer e one more = absurd (omega (arith, e))
  times_then (suc n) k (suc total) before mid p q answer e one more =
      goes_on (step before) (λ v. Times total step (before ++ v ∷ [])) p one.behind one.value answer one.told
      (times_then n k total (before ++ one.value ∷ []) mid one.behind q answer (omega (arith, e)) one.then more)

  pub times_more : (n total : ℕ) (before mid : List V) (p q r : Place) (v : V) → n + 1 ≡ total → Times n step before p (Ok (mid, q)) → step mid q (Ok (v, r)) →
      Times total step before p (Ok (mid ++ v ∷ [], r))
  times_more n total before mid p q r v e one last =
      times_then n 1 total before mid p q (Ok (mid ++ v ∷ [], r)) e one (record { value = v; behind = r; told = last; then = (refl, refl) })

  -- some steps, where all are told
  pub record Front (n k : ℕ) (before all : List V) (p r : Place) : Type 0 where
    pub mid : List V
    pub there : Place
    pub one : Times n step before p (Ok (mid, there))
    pub more : Times k step mid there (Ok (all, r))

  pub times_front : (n k total : ℕ) (before all : List V) (p r : Place) → n + k ≡ total → Times total step before p (Ok (all, r)) → Front n k before all p r
  times_front zero k total before all p r e told =
      let same : total ≡ k = omega (arith, e) in
      record { mid = before; there = p; one = (refl, refl); more = subst (λ (m : ℕ). Times m step before p (Ok (all, r))) same told }
  times_front (suc n) k zero before all p r e told = absurd (omega (arith, e))
  times_front (suc n) k (suc total) before all p r e told =
      let rest = times_front n k total (before ++ told.value ∷ []) all told.behind r (omega (arith, e)) told.then in
      record { mid = rest.mid; there = rest.there; one = record { value = told.value; behind = told.behind; told = told.told; then = rest.one }; more = rest.more }

  -- what is told stands behind what was there, and is as many as the steps
  pub record Grown (n : ℕ) (before all : List V) : Type 0 where
    pub tail : List V
    pub is : all ≡ before ++ tail
    pub count : length tail ≡ n

  pub times_grow : (n : ℕ) (before all : List V) (p r : Place) → Times n step before p (Ok (all, r)) → Grown n before all
  times_grow zero before all p r told = record { tail = []; is = told.0 ∙ sym (append-nil before); count = refl }
  times_grow (suc n) before all p r told =
      let rest = times_grow n (before ++ told.value ∷ []) all told.behind r told.then in
      record { tail = told.value ∷ rest.tail; is = rest.is ∙ append_assoc before (told.value ∷ []) rest.tail; count = omega (arith, rest.count) }
