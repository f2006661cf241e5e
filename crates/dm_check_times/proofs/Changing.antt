-- The changes of a network, one activity after the other.
use Rattle.std.proofs.Common.{◌≡◌, ℕ, ◌+◌, ◌++◌, [], ◌∷◌, false, List, length, refl, sym, ap, subst, ◌∙◌, inl, inr, arith, slice_index, length-append, Vec, Result, Ok, Err}
use Rattle.std.specs.Prelude.{sum_by, IfOk}
use Rattle.std.specs.List.{range_with_len}
use Rattle.std.proofs.lemmas.Bool.{cases_lt}
use Rattle.std.proofs.Math.ListN.{get_or-append}
use Rattle.std.proofs.Math.Seq.{get_or-append_seam}
use Rattle.std.proofs.lemmas.List.Sums.{sum_by_push}
use Rattle.dm_network.proofs.Filling.{range_more}
use Rattle.dm_network.specs.Net.{Net, activity_at, is_change}
use Rattle.dm_check_times.specs.Changes.{AreChangesTo}

sum_one_more : (f : ℕ → ℕ) (n : ℕ) → sum_by f (range_with_len 0 (n + 1)) ≡ sum_by f (range_with_len 0 n) + f n
sum_one_more f n =
    let same : f (0 + n) ≡ f n = ap f (let e : 0 + n ≡ n = omega arith in e) in
    let more = ap (λ (xs : List ℕ). sum_by f xs) (range_more 0 n) ∙ sum_by_push f (range_with_len 0 n) (0 + n) in
    omega (arith, more, same)

-- ---- the changes among the first activities

pub changes_none : (net : Net) → AreChangesTo net 0 []
changes_none net = record { each = λ k below. absurd (omega arith); few = omega arith; add_up = λ f zeros. refl }

pub changes_same : (net : Net) (n : ℕ) (places : List ℕ) → is_change (activity_at net n).kind ≡ false → AreChangesTo net n places → AreChangesTo net (n + 1) places
changes_same net n places other are = record {
  each = λ k below. let b = are.each k below in omega arith;
  few = let f = are.few in omega arith;
  add_up = λ f zeros.
      let had = are.add_up f (λ a below other. zeros a (omega arith) other) in
      let here : f n ≡ 0 = zeros n (omega arith) other in
      let more = sum_one_more f n in
      omega (arith, had, here, more);
}

pub changes_more : (net : Net) (n : ℕ) (places : List ℕ) → AreChangesTo net n places → AreChangesTo net (n + 1) (places ++ n ∷ [])
changes_more net n places are = record {
  each = λ k below. elim (cases_lt k (length places)) [
    | inl less ↦ let b = are.each k less in let same : slice_index (places ++ n ∷ []) k ≡ slice_index places k = get_or-append places (n ∷ []) 0 k less in omega arith
    | inr past ↦
        let l = length-append places (n ∷ []) in
        let is : k ≡ length places = omega arith in
        let same : slice_index (places ++ n ∷ []) k ≡ n = subst (λ (j : ℕ). slice_index (places ++ n ∷ []) j ≡ n) (sym is) (get_or-append_seam places n [] 0) in
        omega arith
  ];
  few = let f = are.few in let l = length-append places (n ∷ []) in omega arith;
  add_up = λ f zeros.
      let had = are.add_up f (λ a below other. zeros a (omega arith) other) in
      let more = sum_one_more f n in
      let pushed = sum_by_push f places n in
      omega (arith, had, more, pushed);
}

pub change_added : {E : Type 0} {Z : Type 0} (net : Net) (n : ℕ) (places : List ℕ) (result : Result (Vec ℕ Z) E) → AreChangesTo net n places → IfOk result (λ more. more.items ≡ places ++ n ∷ []) →
    IfOk result (λ more. AreChangesTo net (n + 1) more.items)
change_added net n places (Ok more) are is = subst (λ (xs : List ℕ). AreChangesTo net (n + 1) xs) (sym is) (changes_more net n places are)
change_added net n places (Err fault) are is = tt
