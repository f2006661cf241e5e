-- Free changes that are sorted stand in the rule's order, which is one.
use Rattle.std.proofs.Common.{◌≡◌, ℕ, zero, suc, ◌+◌, ◌-◌, ◌<◌, ◌≤◌, ◌⊎◌, true, false, List, [], ◌∷◌, length, map, filter, get_or, Some, refl, sym, ap, subst, ◌∙◌, inl, inr, arith}
use Rattle.std.specs.Prelude.{Contains, slice_index_or, slice_get}
use Rattle.std.specs.List.{range_with_len}
use Rattle.std.specs.List.Sorted.{IsPermutation, IsSortedByKey}
use Rattle.std.specs.declared.cmp.Ordering.{Ordering}
use Rattle.std.specs.Ordering.{nat_cmp, is_lt, ordering_then}
use Rattle.std.proofs.lemmas.Bool.{cases_order}
use Rattle.std.proofs.lemmas.Bool.Decides.{nat_tests}
use Rattle.std.proofs.lemmas.List.{get_or-map, length-map, get_or_append_left, length-append}
use Rattle.std.proofs.lemmas.List.Elements.{Contains-get_or}
use Rattle.std.proofs.lemmas.List.Sorted.{Contains-permutation, IsPermutation-sym, IsPermutation-map}
use Rattle.std.proofs.lemmas.Option.{slice_get-get_or}
use Rattle.dm_network.specs.Net.{Net, activity_at, no_activity}
use Rattle.dm_network.specs.Start.{IsNetwork}
use Rattle.dm_network.proofs.Keys.{key_rises}
use Rattle.dm_rows.specs.declared.messages.Choice.{Choice}
use Rattle.dm_rows.specs.Decide.{is_free_change, change_choice, free_choices_of, free_pairs_of}
use Rattle.dm_rows.specs.Rows.{RowsValue}
use Rattle.dm_paths.proofs.Apart.{listed, apart_once, free_are_apart, in_map}
use Rattle.dm_paths.proofs.Naming.{from_place}
use Rattle.dm_waitrule.specs.Rules.{IsLookedAtBefore, IsRuleOrder}
use Rattle.dm_waitrule.specs.Inside.Keyed.{keyed, places_of, IsNoLater}
use Rattle.dm_waitrule.specs.declared.order.FreeChange.{FreeChange}
use Rattle.dm_waitrule.proofs.Distinct.{HasOnce, once_permuted}

-- ---- what a sort by three numbers says of two neighbours

module _ (a b c d e f : ℕ) (no_less : is_lt (ordering_then (ordering_then (nat_cmp b a) (nat_cmp d c)) (nat_cmp f e)) ≡ false) where
  first_le : a ≤ b
  first_le = grind (arith, nat_tests)

  second_le : a ≡ b → c ≤ d
  second_le same = grind (arith, nat_tests)

  third_le : a ≡ b → c ≡ d → e ≤ f
  third_le same alike = grind (arith, nat_tests)

  in_turn : (a < b) ⊎ ((a ≡ b) × ((c < d) ⊎ ((c ≡ d) × (e ≤ f))))
  in_turn =
      elim (cases_order a b) [
        | inl same ↦ elim (cases_order c d) [
          | inl alike ↦ inr (same, inr (alike, third_le same alike))
          | inr (inl less) ↦ inr (same, inl less)
          | inr (inr more) ↦ let le = second_le same in absurd (omega arith)
        ]
        | inr (inl less) ↦ inl less
        | inr (inr more) ↦ let le = first_le in absurd (omega arith)
      ]

abbrev pub key_of : FreeChange → ℕ × ℕ × ℕ
key_of c = (c.time, c.head.0, c.id.0)

abbrev key_cmp : ℕ × ℕ × ℕ → ℕ × ℕ × ℕ → Ordering
key_cmp p q = ordering_then (ordering_then (nat_cmp p.0 q.0) (nat_cmp p.1 q.1)) (nat_cmp p.2 q.2)

pub neighbours : (changes : List FreeChange) → IsSortedByKey key_of key_cmp changes → (k : ℕ) (d : FreeChange) → k + 1 < length changes →
    IsNoLater (slice_index_or changes k d) (slice_index_or changes (k + 1) d)
neighbours changes sorted k d lt =
    let c : FreeChange = slice_index_or changes k d in
    let e : FreeChange = slice_index_or changes (k + 1) d in
    in_turn c.time e.time c.head.0 e.head.0 c.id.0 e.id.0 (sorted k d (omega arith) lt)

-- ---- any two of them

no_later_then : (c d e : FreeChange) → IsNoLater c d → IsNoLater d e → IsNoLater c e
no_later_then c d e (inl p) (inl q) = inl (omega arith)
no_later_then c d e (inl p) (inr q) = let h = q.0 in inl (omega arith)
no_later_then c d e (inr p) (inl q) = let h = p.0 in inl (omega arith)
no_later_then c d e (inr (p, inl r)) (inr (q, inl s)) = inr (p ∙ q, inl (omega arith))
no_later_then c d e (inr (p, inl r)) (inr (q, inr s)) = let h = s.0 in inr (p ∙ q, inl (omega arith))
no_later_then c d e (inr (p, inr r)) (inr (q, inl s)) = let h = r.0 in inr (p ∙ q, inl (omega arith))
no_later_then c d e (inr (p, inr r)) (inr (q, inr s)) = let h = r.1 in let g = s.1 in inr (p ∙ q, inr (r.0 ∙ s.0, omega arith))

module _ (changes : List FreeChange)
    (next : (k : ℕ) (d : FreeChange) → k + 1 < length changes → IsNoLater (slice_index_or changes k d) (slice_index_or changes (k + 1) d)) where
  far : (m n : ℕ) (d : FreeChange) → m + suc n < length changes → IsNoLater (get_or changes m d) (get_or changes (m + suc n) d)
  far m zero d lt =
      let e : m + 1 ≡ m + suc zero = omega arith in
      subst (λ (k : ℕ). IsNoLater (get_or changes m d) (get_or changes k d)) e (next m d (omega arith))
  far m (suc n) d lt =
      let e : m + suc n + 1 ≡ m + suc (suc n) = omega arith in
      no_later_then (get_or changes m d) (get_or changes (m + suc n) d) (get_or changes (m + suc (suc n)) d) (far m n d (omega arith))
      (subst (λ (k : ℕ). IsNoLater (get_or changes (m + suc n) d) (get_or changes k d)) e (next (m + suc n) d (omega arith)))

  between : (m n : ℕ) (d : FreeChange) → m < n → n < length changes → IsNoLater (get_or changes m d) (get_or changes n d)
  between m n d lt within =
      let e : m + suc (n - suc m) ≡ n = omega arith in
      subst (λ (k : ℕ). IsNoLater (get_or changes m d) (get_or changes k d)) e (far m (n - suc m) d (omega arith))

-- ---- the order

module _ (net : Net) (network : IsNetwork net) (rows : RowsValue) where
  abbrev free_places : List ℕ
  free_places = filter (is_free_change net rows) (range_with_len 0 (length net.activities))

  one_id : (a b : ℕ) → a < length net.activities → b < length net.activities → (activity_at net a).id.0 ≡ (activity_at net b).id.0 → a ≡ b
  one_id a b la lb same =
      elim (cases_order a b) [
        | inl is ↦ is
        | inr (inl less) ↦ let h = key_rises (λ x. x.id.0) net.activities network.formed.activities_ascend a b no_activity less lb in absurd (omega arith)
        | inr (inr more) ↦ let h = key_rises (λ x. x.id.0) net.activities network.formed.activities_ascend b a no_activity more la in absurd (omega arith)
      ]

  -- by the choices at them, which are all different
  free_once : HasOnce free_places
  free_once m n d lt lt' same =
      let choices = free_choices_of net rows in
      apart_once choices (free_are_apart net network rows) m n (change_choice net (get_or free_places m d)) (at m lt)
      (at n lt' ∙ ap (λ (a : ℕ). Some (change_choice net a)) (sym same))
    where
      at : (k : ℕ) → k < length free_places → slice_get (free_choices_of net rows) k ≡ Some (change_choice net (get_or free_places k d))
      at k lt =
          let size = length-map free_places (change_choice net) in
          let c : Choice = change_choice net (get_or free_places k d) in
          let within : k < length (free_choices_of net rows) = let more = length-append (map (change_choice net) free_places) (free_pairs_of net rows) in omega arith in
          slice_get-get_or (free_choices_of net rows) k c within
          ∙ ap Some (get_or_append_left (map (change_choice net) free_places) (free_pairs_of net rows) c k (omega arith)
          ∙ get_or-map (change_choice net) free_places k d c lt)

  strict : (a b : ℕ) → IsNoLater (keyed net a) (keyed net b) → ((activity_at net a).id.0 ≡ (activity_at net b).id.0 → ⊥) → IsLookedAtBefore net a b
  strict a b (inl p) other = inl p
  strict a b (inr (p, inl q)) other = inr (p, inl q)
  strict a b (inr (p, inr q)) other =
      elim (cases_order (activity_at net a).id.0 (activity_at net b).id.0) [
        | inl same ↦ absurd (other same)
        | inr (inl less) ↦ inr (p, inr (q.0, less))
        | inr (inr more) ↦ let h = q.1 in absurd (omega arith)
      ]

  module _ (before after : List FreeChange) (listing : before ≡ map (keyed net) free_places) (moved : IsPermutation before after)
      (next : (k : ℕ) (d : FreeChange) → k + 1 < length after → IsNoLater (slice_index_or after k d) (slice_index_or after (k + 1) d)) where
    -- each is the change at its place, which is free
    record IsKeyed (c : FreeChange) : Type 0 where
      is : c ≡ keyed net c.act
      below : c.act < length net.activities
      free : is_free_change net rows c.act ≡ true

    is_keyed : (c : FreeChange) → Contains after c → IsKeyed c
    is_keyed c h =
        let there : Contains before c = Contains-permutation after before c (IsPermutation-sym before after moved) h in
        let from = from_place (keyed net) (is_free_change net rows) (length net.activities) c (subst (λ xs. Contains xs c) listing there) in
        let act : from.place ≡ c.act = ap (λ (x : FreeChange). x.act) from.is in
        record {
          is = sym from.is ∙ ap (keyed net) act;
          below = subst (λ (a : ℕ). a < length net.activities) act from.below;
          free = subst (λ (a : ℕ). is_free_change net rows a ≡ true) act from.passes;
        }

    keyed_at : (k : ℕ) (d : FreeChange) → k < length after → IsKeyed (get_or after k d)
    keyed_at k d lt = is_keyed (get_or after k d) (Contains-get_or after k d lt)

    place_at : (k : ℕ) (d : FreeChange) → k < length after → get_or (places_of after) k 0 ≡ (get_or after k d).act
    place_at k d lt = get_or-map (λ (c : FreeChange). c.act) after k d 0 lt

    acts_are : (places : List ℕ) → places_of (map (keyed net) places) ≡ places
    acts_are [] = refl
    acts_are (a ∷ places) = ap (λ xs. a ∷ xs) (acts_are places)

    places_once : HasOnce (places_of after)
    places_once =
        once_permuted (places_of before) (places_of after) (IsPermutation-map (λ (c : FreeChange). c.act) before after moved)
        (subst HasOnce (sym (ap places_of listing ∙ acts_are free_places)) free_once)

    pub in_rule_order : IsRuleOrder net rows (places_of after)
    in_rule_order =
        let size = length-map after (λ (c : FreeChange). c.act) in
        let d : FreeChange = keyed net 0 in
        record {
          free = λ a h.
              let lt : h.0 < length after = let within = h.1 in omega arith in
              let k = keyed_at h.0 d lt in
              let is : (get_or after h.0 d).act ≡ a = sym (get_or-map (λ (c : FreeChange). c.act) after h.0 d a lt) ∙ h.2 in
              (subst (λ (b : ℕ). b < length net.activities) is k.below, subst (λ (b : ℕ). is_free_change net rows b ≡ true) is k.free);
          each = λ a below free.
              let there : Contains before (keyed net a) = subst (λ xs. Contains xs (keyed net a)) (sym listing)
              (listed (keyed net) (is_free_change net rows) 0 (length net.activities) a (omega arith) (omega arith) free) in
              in_map (λ (c : FreeChange). c.act) after (keyed net a) (Contains-permutation before after (keyed net a) moved there);
          rises = λ m n lt within.
              let below_n : n < length after = omega arith in
              let below_m : m < length after = omega arith in
              let c : FreeChange = get_or after m d in
              let e : FreeChange = get_or after n d in
              let kc = keyed_at m d below_m in
              let ke = keyed_at n d below_n in
              let pc : get_or (places_of after) m 0 ≡ c.act = place_at m d below_m in
              let pe : get_or (places_of after) n 0 ≡ e.act = place_at n d below_n in
              let late : IsNoLater (keyed net c.act) (keyed net e.act) =
              subst (λ (x : FreeChange). IsNoLater x (keyed net e.act)) kc.is
              (subst (λ (x : FreeChange). IsNoLater c x) ke.is (between after next m n d lt below_n)) in
              let other : (activity_at net c.act).id.0 ≡ (activity_at net e.act).id.0 → ⊥ =
              λ same.
              let one : c.act ≡ e.act = one_id c.act e.act kc.below ke.below same in
              let places : m ≡ n = places_once m n 0 (omega arith) within (pc ∙ one ∙ sym pe) in
              omega arith in
              subst (λ (a : ℕ). IsLookedAtBefore net a (get_or (places_of after) n 0)) (sym pc)
              (subst (λ (b : ℕ). IsLookedAtBefore net c.act b) (sym pe) (strict c.act e.act late other));
        }
