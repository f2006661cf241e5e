-- The cost within a share as a sum over its ids.
use Rattle.std.proofs.Common.{◌≡◌, ℕ, zero, suc, ◌+◌, ◌*◌, ◌<◌, ◌≤◌, Bool, true, false, cond, eqb, List, [], ◌∷◌, length, map, get_or, Option, Some, refl, sym, ap, ◌∙◌, inl, inr, arith}
use Rattle.std.specs.Prelude.{All, ◌||◌, ◌==◌, sum_by}
use Rattle.std.specs.List.{range_with_len, list_any}
use Rattle.std.specs.List.Sorted.{IsStrictlyIncreasing}
use Rattle.std.proofs.lemmas.Bool.{cases_lt, cases_eq, eqb-true, eq-eqb, ne_eqb}
use Rattle.std.proofs.lemmas.List.{get_or-map, length-map}
use Rattle.std.proofs.lemmas.List.Quantifiers.{position-Some}
use Rattle.std.proofs.lemmas.List.Elements.{All-head, All-tail}
use Rattle.std.proofs.lemmas.List.Sums.{sum_by-cons}
use Rattle.dm_base.specs.declared.ids.ActId.{ActId}
use Rattle.dm_base.specs.declared.ids.EventId.{EventId}
use Rattle.dm_network.specs.Net.{Net, event_at, activity_at, event_place, activity_place, no_event, no_activity}
use Rattle.dm_network.specs.Start.{IsNetwork}
use Rattle.dm_network.proofs.Keys.{rises_between}
use Rattle.dm_rows.specs.Rows.{RowsValue}
use Rattle.dm_rows.specs.Cost.{event_cost, cancelled_weight, charged_weight, missed_weight, cost_charging}
use Rattle.dm_paths.proofs.Agreeing.{passes_one}
use Rattle.dm_parts.specs.declared.shares.Share.{Share}
use Rattle.dm_parts.specs.Shares.{has_arrival, has_change, within, IsShare}
use Rattle.dm_parts.specs.Sums.{at_place, lateness_of, cancelled_of, charged_of, missed_of, CostsWithinAreSums}
use Rattle.dm_parts.proofs.Alike.{is_missed, within_differs}
use Rattle.dm_parts.proofs.Adding.{sum_same, sum_of_nothing, sum_of_sums, alone_is_apart, late_within, cancelled_within, charged_within, cost_is}

-- no sum behind the place
above : (a place : ℕ) → a ≤ place → (place ≡ a → ⊥) → a + 1 ≤ place
above a place low other = elim (cases_lt a place) [ inl lt ↦ omega (arith, lt) | inr le ↦ (let same : place ≡ a = omega (arith, low, le) in absurd (other same)) ]

nothing_behind : (g : ℕ → ℕ) (b n place : ℕ) → place < b → ((i : ℕ) → i < b + n → (i ≡ place → ⊥) → g i ≡ 0) → sum_by g (range_with_len b n) ≡ 0
nothing_behind g b zero place before none = refl
nothing_behind g b (suc n) place before none =
    let e = sum_by-cons g b (range_with_len (b + 1) n) in
    let first : g b ≡ 0 = none b (omega arith) (λ same. omega (arith, same, before)) in
    let rest = nothing_behind g (b + 1) n place (omega (arith, before)) (λ i lt apart. none i (omega (arith, lt)) apart) in
    omega (arith, e, first, rest)

-- a sum to which one place alone adds something
lone_sum : (g : ℕ → ℕ) (a n place : ℕ) → a ≤ place → place < a + n → ((i : ℕ) → i < a + n → (i ≡ place → ⊥) → g i ≡ 0) →
    sum_by g (range_with_len a n) ≡ g place
lone_sum g a zero place low high none = absurd (omega (arith, low, high))
lone_sum g a (suc n) place low high none =
    let e = sum_by-cons g a (range_with_len (a + 1) n) in
    elim (cases_eq place a) [
      | inl same ↦
          let rest : sum_by g (range_with_len (a + 1) n) ≡ 0 = nothing_behind g (a + 1) n place (omega (arith, same)) (λ i lt other. none i (omega (arith, lt)) other) in
          let here : g place ≡ g a = ap g same in
          omega (arith, e, rest, here)
      | inr other ↦
          let first : g a ≡ 0 = none a (omega arith) (λ same. other (sym same)) in
          let rest = lone_sum g (a + 1) n place (above a place low other) (omega (arith, high)) (λ i lt apart. none i (omega (arith, lt)) apart) in
          omega (arith, e, first, rest)
    ]

-- ids by their numbers, each found at a place of its own
module _ {K : Type 0} (number : K → ℕ) (find : K → Option ℕ) (key : ℕ → ℕ) (n : ℕ) (f : ℕ → ℕ)
    (one : (i j : ℕ) → i < n → j < n → key i ≡ key j → i ≡ j) where
  record IsFound (x : K) : Type 0 where
    place : ℕ
    below : place < n
    found : find x ≡ Some place
    named : key place ≡ number x

  abbrev has : List K → ℕ → Bool
  has xs i = list_any (λ e. eqb (number e) (key i)) xs

  one_adds : (x : K) → IsFound x → sum_by (λ i. cond (eqb (number x) (key i)) (f i) 0) (range_with_len 0 n) ≡ at_place f (find x)
  one_adds x h =
      let g : ℕ → ℕ = λ i. cond (eqb (number x) (key i)) (f i) 0 in
      let lone : sum_by g (range_with_len 0 n) ≡ g h.place =
      lone_sum g 0 n h.place (omega arith) (omega (arith, h.below))
      (λ i lt other. ap (λ b. cond b (f i) 0)
      (ne_eqb (number x) (key i) (λ same. other (one i h.place (omega (arith, lt)) h.below (sym same ∙ sym h.named))))) in
      let here : g h.place ≡ f h.place = ap (λ b. cond b (f h.place) 0) (eq-eqb (number x) (key h.place) (sym h.named)) in
      let there : at_place f (find x) ≡ f h.place = ap (at_place f) h.found in
      lone ∙ here ∙ sym there

  either : (a b : Bool) (w : ℕ) → (a ≡ true → b ≡ true → ⊥) → cond (a || b) w 0 ≡ cond a w 0 + cond b w 0
  either true true w apart = absurd (apart refl refl)
  either true false w apart = omega arith
  either false b w apart = omega arith

  listed_adds : (xs : List K) → IsStrictlyIncreasing (map number xs) → All IsFound xs →
      sum_by (λ i. cond (list_any (λ e. eqb (number e) (key i)) xs) (f i) 0) (range_with_len 0 n) ≡ sum_by (λ x. at_place f (find x)) xs
  listed_adds [] rising all = sum_of_nothing (range_with_len 0 n)
  listed_adds (x ∷ xs) rising all =
      let size = length-map xs number in
      let later = listed_adds xs
      (λ k lt. rises_between (number x ∷ map number xs) rising (suc k) (suc (k + 1)) (omega arith) (omega (arith, lt)))
      (All-tail IsFound x xs all) in
      let here = one_adds x (All-head IsFound x xs all) in
      let apart : (i : ℕ) → eqb (number x) (key i) ≡ true → list_any (λ e. eqb (number e) (key i)) xs ≡ true → ⊥ =
      λ i a b.
      let y = passes_one (λ e. eqb (number e) (key i)) xs b in
      let at : get_or (map number xs) y.1.0 0 ≡ number (get_or xs y.1.0 y.0) = get_or-map number xs y.1.0 y.0 0 y.1.1 in
      let same : number (get_or xs y.1.0 y.0) ≡ number y.0 = ap number y.1.2 in
      let up : number x < get_or (map number xs) y.1.0 0 =
      rises_between (number x ∷ map number xs) rising 0 (suc y.1.0) (omega arith) (omega (arith, size, y.1.1)) in
      let c : number x ≡ key i = eqb-true (number x) (key i) a in
      let d : number y.0 ≡ key i = eqb-true (number y.0) (key i) y.2 in
      omega (arith, at, same, up, c, d) in
      let parted : sum_by (λ i. cond (list_any (λ e. eqb (number e) (key i)) (x ∷ xs)) (f i) 0) (range_with_len 0 n)
      ≡ sum_by (λ i. cond (eqb (number x) (key i)) (f i) 0 + cond (list_any (λ e. eqb (number e) (key i)) xs) (f i) 0) (range_with_len 0 n) =
      sum_same _ _ 0 n (λ i lt. either (eqb (number x) (key i)) (list_any (λ e. eqb (number e) (key i)) xs) (f i) (apart i)) in
      let two = sum_of_sums (λ i. cond (eqb (number x) (key i)) (f i) 0) (λ i. cond (list_any (λ e. eqb (number e) (key i)) xs) (f i) 0) (range_with_len 0 n) in
      let e = sum_by-cons (λ y. at_place f (find y)) x xs in
      omega (arith, later, here, parted, two, e)

-- ids of the same number are at one place
module _ (net : Net) (network : IsNetwork net) where
  one_event : (i j : ℕ) → i < length net.events → j < length net.events → (event_at net i).id.0 ≡ (event_at net j).id.0 → i ≡ j
  one_event i j below below' same =
      elim (cases_lt i j) [
        | inl lt ↦ (let up = id_rises i j lt below' in omega (arith, up, same))
        | inr le ↦ elim (cases_lt j i) [ inl lt ↦ (let up = id_rises j i lt below in omega (arith, up, same)) | inr le' ↦ omega (arith, le, le') ]
      ]
    where
      id_rises : (i j : ℕ) → i < j → j < length net.events → (event_at net i).id.0 < (event_at net j).id.0
      id_rises i j lt below =
          let size = length-map net.events (λ e. e.id.0) in
          let h = rises_between (map (λ e. e.id.0) net.events) network.formed.events_ascend i j lt (omega (arith, size, below)) in
          let e = get_or-map (λ e. e.id.0) net.events i no_event 0 (omega (arith, lt, below)) in
          let f = get_or-map (λ e. e.id.0) net.events j no_event 0 below in
          omega (arith, e, f, h)

  one_activity : (a b : ℕ) → a < length net.activities → b < length net.activities → (activity_at net a).id.0 ≡ (activity_at net b).id.0 → a ≡ b
  one_activity a b below below' same =
      elim (cases_lt a b) [
        | inl lt ↦ (let up = id_rises a b lt below' in omega (arith, up, same))
        | inr le ↦ elim (cases_lt b a) [ inl lt ↦ (let up = id_rises b a lt below in omega (arith, up, same)) | inr le' ↦ omega (arith, le, le') ]
      ]
    where
      id_rises : (i j : ℕ) → i < j → j < length net.activities → (activity_at net i).id.0 < (activity_at net j).id.0
      id_rises i j lt below =
          let size = length-map net.activities (λ e. e.id.0) in
          let h = rises_between (map (λ e. e.id.0) net.activities) network.formed.activities_ascend i j lt (omega (arith, size, below)) in
          let e = get_or-map (λ e. e.id.0) net.activities i no_activity 0 (omega (arith, lt, below)) in
          let f = get_or-map (λ e. e.id.0) net.activities j no_activity 0 below in
          omega (arith, e, f, h)

  module _ (share : Share) (is : IsShare net share) where
    arrivals_add : (f : ℕ → ℕ) →
        sum_by (λ i. cond (has_arrival share (event_at net i).id) (f i) 0) (range_with_len 0 (length net.events))
        ≡ sum_by (λ id. at_place f (event_place net id)) share.arrivals
    arrivals_add f =
        listed_adds (λ (e : EventId). e.0) (event_place net) (λ i. (event_at net i).id.0) (length net.events) f one_event share.arrivals is.arrivals_ascend
        (λ k d lt.
        let h = is.are_arrivals k d lt in
        let id : EventId = get_or share.arrivals k d in
        let at = position-Some (λ e. e.id.0 == id.0) net.events h.place no_event h.found in
        record { place = h.place; below = at.0; found = h.found; named = eqb-true (event_at net h.place).id.0 id.0 at.1 })

    changes_add : (f : ℕ → ℕ) →
        sum_by (λ a. cond (has_change share (activity_at net a).id) (f a) 0) (range_with_len 0 (length net.activities))
        ≡ sum_by (λ id. at_place f (activity_place net id)) share.changes
    changes_add f =
        listed_adds (λ (e : ActId). e.0) (activity_place net) (λ a. (activity_at net a).id.0) (length net.activities) f one_activity share.changes is.changes_ascend
        (λ k d lt.
        let h = is.are_changes k d lt in
        let id : ActId = get_or share.changes k d in
        let at = position-Some (λ e. e.id.0 == id.0) net.activities h.place no_activity h.found in
        record { place = h.place; below = at.0; found = h.found; named = eqb-true (activity_at net h.place).id.0 id.0 at.1 })

    within_adds : (rows : RowsValue) (charged : ℕ → Bool) (x : List ℕ) (penalty : ℕ) →
        cost_charging (within net share) rows charged x penalty
        ≡ lateness_of net share rows x + penalty * cancelled_of net share rows + penalty * charged_of net share charged
        + penalty * missed_of net share rows x
    within_adds rows charged x penalty =
        let apart = alone_is_apart share in
        let late = late_within net (share ∷ []) apart rows x share ∙ arrivals_add (event_cost net rows x) in
        let gone = cancelled_within net (share ∷ []) apart rows share ∙ arrivals_add (cancelled_weight net rows) in
        let dear = charged_within net (share ∷ []) apart charged share ∙ changes_add (charged_weight net charged) in
        let lost = charged_within net (share ∷ []) apart (is_missed net rows x) share ∙ changes_add (missed_weight net rows x) in
        cost_is net (share ∷ []) apart (within net share) rows charged x penalty (within_differs net share)
        ∙ four_same penalty late gone dear lost
      where
        four_same : {a b c d a' b' c' d' : ℕ} (p : ℕ) → a ≡ a' → b ≡ b' → c ≡ c' → d ≡ d' →
            a + p * b + p * c + p * d ≡ a' + p * b' + p * c' + p * d'
        four_same p e f g h =
            let f' = ap (λ n. p * n) f in
            let g' = ap (λ n. p * n) g in
            let h' = ap (λ n. p * n) h in
            omega (arith, e, f', g', h')

pub costs_within_are_sums : CostsWithinAreSums
costs_within_are_sums net share rows charged x penalty network is = within_adds net network share is rows charged x penalty
