-- With the decisions by which a rule's rows differ from the rows before, these are the rule's rows.
use Rattle.std.proofs.Common.{◌≡◌, ℕ, ◌<◌, ◌⊎◌, Bool, true, false, cond, List, [], ◌∷◌, length, map, filter, fold, set, get_or, Some, refl, sym, ap, subst, ◌∙◌, inl, inr, arith}
use Rattle.std.specs.Prelude.{Contains, All, not, ◌&&◌}
use Rattle.std.specs.List.{range_with_len}
use Rattle.std.proofs.lemmas.Bool.{cases_Bool, cases_eq}
use Rattle.std.proofs.lemmas.Grind.{get_or-set_at}
use Rattle.std.proofs.lemmas.List.{get_or-set_other, length-set, ext_get_or, map-id}
use Rattle.std.proofs.lemmas.List.FromFn.{length-range_with_len, get_or-range_with_len}
use Rattle.std.proofs.lemmas.List.Elements.{All-head, All-tail, All-filter}
use Rattle.dm_network.specs.Net.{Net}
use Rattle.dm_network.specs.Start.{IsNetwork}
use Rattle.dm_rows.specs.Decide.{is_free_change, with_flip, with_decisions}
use Rattle.dm_rows.specs.Rows.{RowsValue, IsSized, kept_at}
use Rattle.dm_paths.specs.Decisions.{change_decision}
use Rattle.dm_paths.proofs.Apart.{listed}
use Rattle.dm_paths.proofs.Naming.{change_flip, change_flips}
use Rattle.dm_paths.proofs.Setting.{in_front}
use Rattle.dm_waitrule.specs.Rules.{IsRuleOrder, is_decided_otherwise, differences_to}
use Rattle.dm_waitrule.proofs.Ruled.{ChangesKept}

-- flags set to those of a test, at these places
abbrev set_to : (ℕ → Bool) → List Bool → List ℕ → List Bool
set_to flag flags places = fold (λ fs a. set fs a (flag a)) flags places

set_size : (flag : ℕ → Bool) (flags : List Bool) (places : List ℕ) → length (set_to flag flags places) ≡ length flags
set_size flag flags [] = refl
set_size flag flags (a ∷ places) = set_size flag (set flags a (flag a)) places ∙ length-set flags a (flag a)

set_there : (flag : ℕ → Bool) (flags : List Bool) (places : List ℕ) (x : ℕ) → x < length flags →
    (get_or flags x true ≡ flag x) ⊎ Contains places x → get_or (set_to flag flags places) x true ≡ flag x
set_there flag flags [] x lt (inl is) = is
set_there flag flags [] x lt (inr c) = absurd (let none = c.1 in omega arith)
set_there flag flags (a ∷ places) x lt h =
    let size = length-set flags a (flag a) in
    elim (cases_eq x a) [
      | inl same ↦
          set_there flag (set flags a (flag a)) places x (omega arith)
          (inl (get_or-set_at flags a x (flag a) true same (omega arith) ∙ ap flag (sym same)))
      | inr other ↦
          let stays : get_or (set flags a (flag a)) x true ≡ get_or flags x true = get_or-set_other flags a x (flag a) true other in
          set_there flag (set flags a (flag a)) places x (omega arith)
          (elim h [
            | inl is ↦ inl (stays ∙ is)
            | inr c ↦ elim (in_front a x places c) [
              | inl same ↦ absurd (other (sym same))
              | inr behind ↦ inr behind
            ]
          ])
    ]

after_change : (r : RowsValue) (a : ℕ) (kept : Bool) → with_flip r (Some (change_flip a kept)) ≡ record r { kept = set r.kept a kept }
after_change r a true = refl
after_change r a false = refl

-- flags that differ by no test are the same
alike : (before other : Bool) → (cond before (not other) other) ≡ false → before ≡ other
alike true true h = refl
alike true false h = cc
alike false true h = cc
alike false false h = refl

neither : (a b : Bool) → (a && b) ≡ false → (a ≡ false) ⊎ (b ≡ false)
neither true b h = inr h
neither false b h = inl refl

module _ (net : Net) (network : IsNetwork net) where
  setting : (flag : ℕ → Bool) (places : List ℕ) (r : RowsValue) → All (λ a. a < length net.activities) places →
      with_decisions net r (map (λ a. change_decision net a (flag a)) places) ≡ record r { kept = set_to flag r.kept places }
  setting flag [] r within = refl
  setting flag (a ∷ places) r within =
      let below : a < length net.activities = All-head (λ b. b < length net.activities) a places within in
      let rest = All-tail (λ b. b < length net.activities) a places within in
      let next : RowsValue = record r { kept = set r.kept a (flag a) } in
      ap (λ f. with_decisions net (with_flip r f) (map (λ b. change_decision net b (flag b)) places)) (change_flips net network a (flag a) below)
      ∙ ap (λ s. with_decisions net s (map (λ b. change_decision net b (flag b)) places)) (after_change r a (flag a))
      ∙ setting flag places next rest

  module _ (rows ruled : RowsValue) (sized : IsSized net rows) (order : List ℕ) (is_order : IsRuleOrder net rows order)
      (changed : ChangesKept rows ruled order) where
    abbrev places : List ℕ
    places = filter (is_decided_otherwise net rows ruled) (range_with_len 0 (length net.activities))

    within : All (λ a. a < length net.activities) places
    within =
        All-filter (is_decided_otherwise net rows ruled) (λ a. a < length net.activities) (range_with_len 0 (length net.activities))
        (λ k d lt. let lt' : k < length net.activities = omega (arith, length-range_with_len 0 (length net.activities)) in
        let e = get_or-range_with_len 0 (length net.activities) k d lt' in omega (arith, e))

    -- a change that the two have alike, or that is decided otherwise
    told : (x : ℕ) → x < length net.activities → (kept_at rows x ≡ kept_at ruled x) ⊎ Contains places x
    told x lt =
        elim (cases_Bool (is_decided_otherwise net rows ruled x)) [
          | inl otherwise ↦
              inr (subst (λ xs. Contains xs x) (map-id places)
              (listed (λ (k : ℕ). k) (is_decided_otherwise net rows ruled) 0 (length net.activities) x (omega arith) (omega arith) otherwise))
          | inr alike_or_not_free ↦ inl (same x alike_or_not_free)
        ]
      where
        same : (y : ℕ) → is_decided_otherwise net rows ruled y ≡ false → kept_at rows y ≡ kept_at ruled y
        same y h =
            elim (neither (is_free_change net rows y) (cond (kept_at rows y) (not (kept_at ruled y)) (kept_at ruled y)) h) [
              | inl not_free ↦
                  sym (changed.others y (λ c.
                  let free : is_free_change net rows y ≡ true = (is_order.free y c).1 in
                  let e : true ≡ false = sym free ∙ not_free in
                  cc))
              | inr no_difference ↦ alike (kept_at rows y) (kept_at ruled y) no_difference
            ]

    kept_is : set_to (kept_at ruled) rows.kept places ≡ ruled.kept
    kept_is =
        let size = set_size (kept_at ruled) rows.kept places in
        let long = changed.size in
        let many = sized.kept in
        ext_get_or true (set_to (kept_at ruled) rows.kept places) ruled.kept (omega arith)
        (λ x lt. set_there (kept_at ruled) rows.kept places x (omega arith) (told x (omega arith)))

    pub with_differences : with_decisions net rows (differences_to net rows ruled) ≡ ruled
    with_differences =
        setting (kept_at ruled) places rows within
        ∙ ap (λ (ks : List Bool). record rows { kept = ks }) kept_is
        ∙ sym changed.is
