-- What a part of a list that ascends by a key holds.
use Rattle.std.proofs.Common.{◌≡◌, ℕ, zero, suc, ◌-◌, ◌<◌, ◌≤◌, Bool, true, false, eqb, ltb, leb, List, [], ◌∷◌, length, map, get_or, refl, sym, ap, ◌∙◌, inl, inr, arith, filter, slice_range}
use Rattle.std.specs.List.Sorted.{IsPartitionPoint, IsNonDecreasing, IsNonDecreasingBy}
use Rattle.std.proofs.lemmas.Bool.{cases_lt, ltb-true, ltb-false, leb-true, leb-false, ne_eqb, eq-eqb}
use Rattle.std.proofs.lemmas.List.{get_or-map, length-map}
use Rattle.dm_network.specs.Inside.Flat.{StandsWithin}
use Rattle.dm_base.specs.declared.ids.StopId.{StopId}

-- what passes stands from one place up to another
pub record PassesWithin (test : ℕ → Bool) (xs : List ℕ) (low high : ℕ) : Type 0 where
  pub before : (k : ℕ) → k < low → test (get_or xs k 0) ≡ false
  pub inside : (k : ℕ) → low ≤ k → k < high → test (get_or xs k 0) ≡ true
  pub after : (k : ℕ) → high ≤ k → k < length xs → test (get_or xs k 0) ≡ false

pub filter_of_window : (test : ℕ → Bool) (xs : List ℕ) (low high : ℕ) → low ≤ high → high ≤ length xs → PassesWithin test xs low high →
    filter test xs ≡ slice_range xs low high
filter_of_window test [] zero zero order in' w = refl
filter_of_window test [] zero (suc high) order in' w = absurd (omega arith)
filter_of_window test [] (suc low) high order in' w = absurd (omega arith)
filter_of_window test (x ∷ xs) zero zero order in' w =
    let fails : test x ≡ false = w.after 0 (omega arith) (omega arith) in
    rw fails
    (filter_of_window test xs 0 0 (omega arith) (omega arith) (record {
      before = λ k lt. absurd (omega arith);
      inside = λ k le lt. absurd (omega arith);
      after = λ k le lt. w.after (suc k) (omega arith) (omega arith);
    }))
filter_of_window test (x ∷ xs) zero (suc high) order in' w =
    let passes : test x ≡ true = w.inside 0 (omega arith) (omega arith) in
    let e : suc high - 0 ≡ suc (high - 0) = omega arith in
    rw (passes, e)
    (ap (λ ys. x ∷ ys) (filter_of_window test xs 0 high (omega arith) (omega arith) (record {
      before = λ k lt. absurd (omega arith);
      inside = λ k le lt. w.inside (suc k) (omega arith) (omega arith);
      after = λ k le lt. w.after (suc k) (omega arith) (omega arith);
    })))
filter_of_window test (x ∷ xs) (suc low) zero order in' w = absurd (omega arith)
filter_of_window test (x ∷ xs) (suc low) (suc high) order in' w =
    let e : suc high - suc low ≡ high - low = omega arith in
    let fails : test x ≡ false = w.before 0 (omega arith) in
    rw (fails, e)
    (filter_of_window test xs low high (omega arith) (omega arith) (record {
      before = λ k lt. w.before (suc k) (omega arith);
      inside = λ k le lt. w.inside (suc k) (omega arith) (omega arith);
      after = λ k le lt. w.after (suc k) (omega arith) (omega arith);
    }))

no_stop : StopId
no_stop = record { 0 = 0 }

pub stops_do_not_fall : (stops : List StopId) → IsNonDecreasing (map (λ s. s.0) stops) → IsNonDecreasingBy (λ s. s.0) stops
stops_do_not_fall stops up i j d le in' =
    let h = up i j 0 le (rw length-map in') in
    let a = get_or-map (λ s. s.0) stops i d 0 (omega arith) in
    let b = get_or-map (λ s. s.0) stops j d 0 in' in
    omega arith

module _ (stops : List StopId) (stop low high : ℕ)
    (starts : IsPartitionPoint (λ s. ltb s.0 stop ≡ true) (λ s. ltb s.0 stop ≡ false) stops low)
    (ends : IsPartitionPoint (λ s. leb s.0 stop ≡ true) (λ s. leb s.0 stop ≡ false) stops high)
    (start_within : low ≤ length stops) (end_within : high ≤ length stops) where
  start_before_end : low ≤ high
  start_before_end =
      elim (cases_lt high low) [
        | inl lt ↦
            let a = leb-false (get_or stops high no_stop).0 stop (ends.1 high no_stop (omega arith) (omega arith)) in
            let b = ltb-true (get_or stops high no_stop).0 stop (starts.0 high no_stop (omega arith) lt) in
            absurd (omega arith)
        | inr le ↦ le
      ]

  pub stands_within : StandsWithin (map (λ s. s.0) stops) stop low high
  stands_within = record {
    order = start_before_end;
    within = rw length-map end_within;
    before = λ k lt.
        let e = get_or-map (λ s. s.0) stops k no_stop 0 (omega arith) in
        let b = ltb-true (get_or stops k no_stop).0 stop (starts.0 k no_stop (omega arith) lt) in
        omega arith;
    inside = λ k le lt.
        let e = get_or-map (λ s. s.0) stops k no_stop 0 (omega arith) in
        let a = ltb-false (get_or stops k no_stop).0 stop (starts.1 k no_stop le (omega arith)) in
        let b = leb-true (get_or stops k no_stop).0 stop (ends.0 k no_stop (omega arith) lt) in
        omega arith;
    after = λ k le lt.
        let in' : k < length stops = simp length-map at lt in
        let e = get_or-map (λ s. s.0) stops k no_stop 0 in' in
        let b = leb-false (get_or stops k no_stop).0 stop (ends.1 k no_stop le in') in
        omega arith;
  }

pub beside_is_filter : (keys places : List ℕ) (key low high : ℕ) → StandsWithin keys key low high →
    (of : ℕ → ℕ) → keys ≡ map of places → slice_range places low high ≡ filter (λ i. eqb (of i) key) places
beside_is_filter keys places key low high w of same =
    let many : length keys ≡ length places = ap length same ∙ length-map places of in
    let is : (k : ℕ) → k < length places → of (get_or places k 0) ≡ get_or keys k 0 =
    λ k lt. sym (ap (λ ys. get_or ys k 0) same ∙ get_or-map of places k 0 0 lt) in
    let within = w.within in
    let order = w.order in
    sym (filter_of_window (λ i. eqb (of i) key) places low high order (omega arith) (record {
      before = λ k lt.
          let e = is k (omega arith) in
          let b = w.before k lt in
          ne_eqb (of (get_or places k 0)) key (λ s. omega arith);
      inside = λ k le lt.
          let e = is k (omega arith) in
          let b = w.inside k le lt in
          eq-eqb (of (get_or places k 0)) key (omega arith);
      after = λ k le lt.
          let e = is k (omega arith) in
          let b = w.after k le (omega arith) in
          ne_eqb (of (get_or places k 0)) key (λ s. omega arith);
    }))
