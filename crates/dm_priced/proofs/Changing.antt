-- How the sums change where one event has another time, where an event passes, and where a span or a charge changes.
use Rattle.std.proofs.Common.{◌≡◌, ◌≢◌, ℕ, zero, suc, ◌+◌, ◌<◌, Bool, true, false, List, length, sum_by, replicate, refl, sym, ap, ◌∙◌, ◌&&◌, ◌||◌, ◌-◌, ◌*◌, not, if◌then◌else◌, inl, inr, arith, nat_lt, eq-eqb, eqb-true, slice_index, get_or-set_same, get_or-set_other}
use Rattle.std.specs.Prelude.{◌==◌, slice_set}
use Rattle.std.specs.List.{range_with_len}
use Rattle.std.proofs.lemmas.Bool.{cases_lt, lt-ltb, le-ltb, and_right}
use Rattle.dm_network.specs.Net.{Net, event_at, activity_at, is_change, places_into, places_out_of}
use Rattle.dm_rows.specs.Cost.{charged_weight, is_arrival}
use Rattle.dm_priced.specs.Priced.{is_flagged, comes_too_early, late_weight, lost_weight, missed_weight, lateness_of, cancelled_of, charged_of, missed_of}
use Rattle.dm_priced.specs.Inside.Adding.{cost_at, late_at, lost_at, missed_at, LeadToNonePassed}
use Rattle.dm_rows.proofs.Totals.{sum_moves}
use Rattle.dm_priced.proofs.Sums.{sum_none, sum_none_on, sum_none_along, sum_moves_row, sum_moves_rows}

differs : (j i : ℕ) → (j == i) ≡ false → j ≢ i
differs j i not is = let yes = eq-eqb j i is in absurd cc

-- whether an event comes too early after itself is for its span alone to say
alone : (u v span : ℕ) → nat_lt u (u + span) ≡ nat_lt v (v + span)
alone u v span =
    elim (cases_lt 0 span) [
      | inl some ↦ lt-ltb u (u + span) (omega arith) ∙ sym (lt-ltb v (v + span) (omega arith))
      | inr none ↦ le-ltb u (u + span) (omega arith) ∙ sym (le-ltb v (v + span) (omega arith))
    ]

-- an event that runs costs its lateness
kept_cost : (arrival cancelled : Bool) (v : ℕ) → cancelled ≡ false → (if arrival && not cancelled then v else 0) ≡ (if arrival then v else 0)
kept_cost true cancelled v runs = ap (λ (b : Bool). if not b then v else 0) runs
kept_cost false cancelled v runs = refl

pub late_is_cost : (net : Net) (cancelled : Bool) (i time : ℕ) → cancelled ≡ false → late_at net cancelled i time ≡ cost_at net i time
late_is_cost net cancelled i time runs =
    kept_cost (is_arrival (event_at net i).kind) cancelled ((event_at net i).weight * (time - (event_at net i).time)) runs

no_cost : (arrival cancelled : Bool) (v : ℕ) → cancelled ≡ true → (if arrival && not cancelled then v else 0) ≡ 0
no_cost true cancelled v is = ap (λ (b : Bool). if not b then v else 0) is
no_cost false cancelled v is = refl

pub late_is_nothing : (net : Net) (cancelled : Bool) (i time : ℕ) → cancelled ≡ true → late_at net cancelled i time ≡ 0
late_is_nothing net cancelled i time is =
    no_cost (is_arrival (event_at net i).kind) cancelled ((event_at net i).weight * (time - (event_at net i).time)) is

pub lateness_moves : (net : Net) (cancelled : List Bool) (x : List ℕ) (e t : ℕ) → e < length net.events → length x ≡ length net.events →
    lateness_of net cancelled (slice_set x e t) + late_at net (is_flagged cancelled e) e (slice_index x e)
    ≡ lateness_of net cancelled x + late_at net (is_flagged cancelled e) e t
lateness_moves net cancelled x e t lt many =
    let late : ℕ → ℕ → ℕ = λ k u. late_at net (is_flagged cancelled k) k u in
    let moved = sum_moves (late_weight net cancelled x) (late_weight net cancelled (slice_set x e t)) e
    (λ k ne. ap (late k) (get_or-set_other x e k t 0 ne)) 0 (length net.events) (omega arith) (omega arith) in
    let here : late_weight net cancelled (slice_set x e t) e ≡ late e t = ap (late e) (get_or-set_same x e t 0 (omega arith)) in
    omega (arith, moved, here)

-- an event that is cancelled or is not
pub lateness_moves_flag : (net : Net) (cancelled : List Bool) (x : List ℕ) (e : ℕ) (flag : Bool) → e < length net.events →
    length cancelled ≡ length net.events →
    lateness_of net (slice_set cancelled e flag) x + late_at net (is_flagged cancelled e) e (slice_index x e)
    ≡ lateness_of net cancelled x + late_at net flag e (slice_index x e)
lateness_moves_flag net cancelled x e flag lt many =
    let late : ℕ → Bool → ℕ = λ k b. late_at net b k (slice_index x k) in
    let moved = sum_moves (late_weight net cancelled x) (late_weight net (slice_set cancelled e flag) x) e
    (λ k ne. ap (late k) (get_or-set_other cancelled e k flag false ne)) 0 (length net.events) (omega arith) (omega arith) in
    let here : late_weight net (slice_set cancelled e flag) x e ≡ late e flag = ap (late e) (get_or-set_same cancelled e flag false (omega arith)) in
    omega (arith, moved, here)

pub cancelled_moves_flag : (net : Net) (cancelled : List Bool) (e : ℕ) (flag : Bool) → e < length net.events →
    length cancelled ≡ length net.events →
    cancelled_of net (slice_set cancelled e flag) + lost_at net (is_flagged cancelled e) e ≡ cancelled_of net cancelled + lost_at net flag e
cancelled_moves_flag net cancelled e flag lt many =
    let lost : ℕ → Bool → ℕ = λ k b. lost_at net b k in
    let moved = sum_moves (lost_weight net cancelled) (lost_weight net (slice_set cancelled e flag)) e
    (λ k ne. ap (lost k) (get_or-set_other cancelled e k flag false ne)) 0 (length net.events) (omega arith) (omega arith) in
    let here : lost_weight net (slice_set cancelled e flag) e ≡ lost e flag = ap (lost e) (get_or-set_same cancelled e flag false (omega arith)) in
    omega (arith, moved, here)

module _ (net : Net) (passed cancelled : List Bool) (spans x : List ℕ) (e t : ℕ) (lt : e < length x) where
  away : (k : ℕ) → ((activity_at net k).head == e) ≡ false → ((activity_at net k).tail == e) ≡ false →
      missed_weight net passed cancelled spans (slice_set x e t) k ≡ missed_weight net passed cancelled spans x k
  away k head tail =
      ap (λ (u : ℕ). missed_at net passed cancelled k u (slice_index (slice_set x e t) (activity_at net k).head) (slice_index spans k))
      (get_or-set_other x e (activity_at net k).tail t 0 (differs _ e tail))
      ∙ ap (λ (v : ℕ). missed_at net passed cancelled k (slice_index x (activity_at net k).tail) v (slice_index spans k))
      (get_or-set_other x e (activity_at net k).head t 0 (differs _ e head))

  around : (k : ℕ) → (activity_at net k).head ≡ e → (activity_at net k).tail ≡ e →
      missed_weight net passed cancelled spans (slice_set x e t) k ≡ missed_weight net passed cancelled spans x k
  around k head tail =
      let span : ℕ = slice_index spans k in
      let late : Bool → ℕ = λ b. if is_change (activity_at net k).kind && is_flagged passed (activity_at net k).head && (is_flagged cancelled (activity_at net k).tail || b) then (activity_at net k).weight else 0 in
      ap (λ (u : ℕ). missed_at net passed cancelled k u (slice_index (slice_set x e t) (activity_at net k).head) span)
      (ap (slice_index (slice_set x e t)) tail ∙ get_or-set_same x e t 0 lt)
      ∙ ap (λ (v : ℕ). missed_at net passed cancelled k t v span) (ap (slice_index (slice_set x e t)) head ∙ get_or-set_same x e t 0 lt)
      ∙ ap late (alone t (slice_index x e) span)
      ∙ ap (λ (v : ℕ). missed_at net passed cancelled k (slice_index x e) v span) (ap (slice_index x) (sym head))
      ∙ ap (λ (u : ℕ). missed_at net passed cancelled k u (slice_index x (activity_at net k).head) span) (ap (slice_index x) (sym tail))

  pub missed_moves : (into out_of : List ℕ) → into ≡ places_into net e → out_of ≡ places_out_of net e →
      missed_of net passed cancelled spans (slice_set x e t)
      + (sum_by (missed_weight net passed cancelled spans x) into + sum_by (missed_weight net passed cancelled spans x) out_of)
      ≡ missed_of net passed cancelled spans x
      + (sum_by (missed_weight net passed cancelled spans (slice_set x e t)) into + sum_by (missed_weight net passed cancelled spans (slice_set x e t)) out_of)
  missed_moves into out_of into_is out_is =
      rw (into_is, out_is)
      (sum_moves_rows (missed_weight net passed cancelled spans x) (missed_weight net passed cancelled spans (slice_set x e t))
      (λ k. (activity_at net k).head == e) (λ k. (activity_at net k).tail == e) away
      (λ k head tail. around k (eqb-true _ e head) (eqb-true _ e tail)) (range_with_len 0 (length net.activities)))

-- an activity with another span
pub span_moves : (net : Net) (passed cancelled : List Bool) (spans x : List ℕ) (a span : ℕ) → a < length net.activities → a < length spans →
    missed_of net passed cancelled (slice_set spans a span) x
    + missed_at net passed cancelled a (slice_index x (activity_at net a).tail) (slice_index x (activity_at net a).head) (slice_index spans a)
    ≡ missed_of net passed cancelled spans x + missed_at net passed cancelled a (slice_index x (activity_at net a).tail) (slice_index x (activity_at net a).head) span
span_moves net passed cancelled spans x a span lt within =
    let at : ℕ → ℕ = λ s. missed_at net passed cancelled a (slice_index x (activity_at net a).tail) (slice_index x (activity_at net a).head) s in
    let moved = sum_moves (missed_weight net passed cancelled spans x) (missed_weight net passed cancelled (slice_set spans a span) x) a
    (λ k ne. ap (λ (s : ℕ). missed_at net passed cancelled k (slice_index x (activity_at net k).tail) (slice_index x (activity_at net k).head) s)
    (get_or-set_other spans a k span 0 ne)) 0 (length net.activities) (omega arith) (omega arith) in
    let here : missed_weight net passed cancelled (slice_set spans a span) x a ≡ at span = ap at (get_or-set_same spans a span 0 within) in
    omega (arith, moved, here)

-- an event that has passed or not
pub passed_moves : (net : Net) (passed cancelled : List Bool) (spans x : List ℕ) (i : ℕ) (flag : Bool) (into : List ℕ) → into ≡ places_into net i →
    missed_of net (slice_set passed i flag) cancelled spans x + sum_by (missed_weight net passed cancelled spans x) into
    ≡ missed_of net passed cancelled spans x + sum_by (missed_weight net (slice_set passed i flag) cancelled spans x) into
passed_moves net passed cancelled spans x i flag into into_is =
    rw into_is
    (sum_moves_row (missed_weight net passed cancelled spans x) (missed_weight net (slice_set passed i flag) cancelled spans x) (λ k. (activity_at net k).head == i)
    (λ k head. ap (λ (b : Bool). if is_change (activity_at net k).kind && b && (is_flagged cancelled (activity_at net k).tail || comes_too_early net spans x k) then (activity_at net k).weight else 0)
    (get_or-set_other passed i (activity_at net k).head flag false (differs _ i head))) (range_with_len 0 (length net.activities)))

-- an event that is cancelled or is not
pub cancelled_moves : (net : Net) (passed cancelled : List Bool) (spans x : List ℕ) (i : ℕ) (flag : Bool) (out_of : List ℕ) → out_of ≡ places_out_of net i →
    missed_of net passed (slice_set cancelled i flag) spans x + sum_by (missed_weight net passed cancelled spans x) out_of
    ≡ missed_of net passed cancelled spans x + sum_by (missed_weight net passed (slice_set cancelled i flag) spans x) out_of
cancelled_moves net passed cancelled spans x i flag out_of out_is =
    rw out_is
    (sum_moves_row (missed_weight net passed cancelled spans x) (missed_weight net passed (slice_set cancelled i flag) spans x) (λ k. (activity_at net k).tail == i)
    (λ k tail. ap (λ (b : Bool). if is_change (activity_at net k).kind && is_flagged passed (activity_at net k).head && (b || comes_too_early net spans x k) then (activity_at net k).weight else 0)
    (get_or-set_other cancelled i (activity_at net k).tail flag false (differs _ i tail))) (range_with_len 0 (length net.activities)))

-- an activity that is charged for or not
pub charge_moves : (net : Net) (charged : List Bool) (a : ℕ) (flag : Bool) → a < length net.activities → a < length charged →
    charged_of net (slice_set charged a flag) + (if is_flagged charged a then (activity_at net a).weight else 0)
    ≡ charged_of net charged + (if flag then (activity_at net a).weight else 0)
charge_moves net charged a flag lt within =
    let at : Bool → ℕ = λ b. if b then (activity_at net a).weight else 0 in
    let moved = sum_moves (charged_weight net (is_flagged charged)) (charged_weight net (is_flagged (slice_set charged a flag))) a
    (λ k ne. ap (λ (b : Bool). if b then (activity_at net k).weight else 0) (get_or-set_other charged a k flag false ne)) 0 (length net.activities) (omega arith) (omega arith) in
    let here : charged_weight net (is_flagged (slice_set charged a flag)) a ≡ at flag = ap at (get_or-set_same charged a flag false within) in
    omega (arith, moved, here)

-- where nothing is flagged, nothing is charged for and nothing is missed
pub none_flagged : (n k : ℕ) → is_flagged (replicate n false) k ≡ false
none_flagged zero k = refl
none_flagged (suc n) zero = refl
none_flagged (suc n) (suc k) = none_flagged n k

pub none_charged : (net : Net) (charged : List Bool) (n : ℕ) → charged ≡ replicate n false → charged_of net charged ≡ 0
none_charged net charged n are =
    rw are (sum_none (charged_weight net (is_flagged (replicate n false))) (range_with_len 0 (length net.activities))
    (λ k. ap (λ (b : Bool). if b then (activity_at net k).weight else 0) (none_flagged n k)))

pub none_cancelled : (net : Net) (cancelled : List Bool) (n : ℕ) → cancelled ≡ replicate n false → cancelled_of net cancelled ≡ 0
none_cancelled net cancelled n are =
    rw are (sum_none (lost_weight net (replicate n false)) (range_with_len 0 (length net.events))
    (λ k. ap (λ (b : Bool). if b then (event_at net k).weight else 0) (and_right (is_arrival (event_at net k).kind) _ (none_flagged n k))))

pub none_missed : (net : Net) (passed cancelled : List Bool) (spans x : List ℕ) (n : ℕ) → passed ≡ replicate n false → missed_of net passed cancelled spans x ≡ 0
none_missed net passed cancelled spans x n are =
    rw are (sum_none (missed_weight net (replicate n false) cancelled spans x) (range_with_len 0 (length net.activities))
    (λ k. let late : Bool → ℕ = λ b. if b && (is_flagged cancelled (activity_at net k).tail || comes_too_early net spans x k) then (activity_at net k).weight else 0 in
    ap late (and_right (is_change (activity_at net k).kind) _ (none_flagged n (activity_at net k).head))))

-- ---- what cannot be missed

not_flagged : (change passed late : Bool) (weight : ℕ) → change && passed ≡ false → 0 ≡ (if change && passed && late then weight else 0)
not_flagged false passed late weight is = refl
not_flagged true false late weight is = refl
not_flagged true true late weight is = absurd cc

not_passed : (change passed : Bool) → passed ≡ false → change && passed ≡ false
not_passed false passed is = refl
not_passed true passed is = is

-- an activity that is no change, or whose head has not passed
pub unmissable : (net : Net) (passed cancelled : List Bool) (spans x : List ℕ) (a : ℕ) → is_change (activity_at net a).kind && is_flagged passed (activity_at net a).head ≡ false →
    0 ≡ missed_weight net passed cancelled spans x a
unmissable net passed cancelled spans x a is =
    not_flagged (is_change (activity_at net a).kind) (is_flagged passed (activity_at net a).head)
    (is_flagged cancelled (activity_at net a).tail || comes_too_early net spans x a) (activity_at net a).weight is

-- the activities into an event that has not passed
pub unpassed_into : (net : Net) (passed cancelled : List Bool) (spans x : List ℕ) (e : ℕ) (row : List ℕ) → row ≡ places_into net e → is_flagged passed e ≡ false →
    0 ≡ sum_by (missed_weight net passed cancelled spans x) row
unpassed_into net passed cancelled spans x e row is not =
    sym (ap (sum_by (missed_weight net passed cancelled spans x)) is
    ∙ sum_none_along (missed_weight net passed cancelled spans x) (λ (a : ℕ). (activity_at net a).head == e)
    (λ a enters.
    let head : (activity_at net a).head ≡ e = eqb-true (activity_at net a).head e enters in
    sym (unmissable net passed cancelled spans x a
    (not_passed (is_change (activity_at net a).kind) (is_flagged passed (activity_at net a).head) (ap (is_flagged passed) head ∙ not))))
    (range_with_len 0 (length net.activities)))

-- a row on which no change leads to an event that has passed
pub none_missed_along : (net : Net) (passed cancelled : List Bool) (spans x row : List ℕ) → LeadToNonePassed net passed row → 0 ≡ sum_by (missed_weight net passed cancelled spans x) row
none_missed_along net passed cancelled spans x row none =
    sym (sum_none_on (missed_weight net passed cancelled spans x) row (λ k lt. sym (unmissable net passed cancelled spans x (slice_index row k) (none k lt))))
