-- A watcher's sums through one write, and what a priced timetable costs beside rows.
use Rattle.std.proofs.Common.{◌≡◌, ℕ, ◌+◌, ◌-◌, ◌*◌, ◌<◌, ◌≤◌, Bool, true, false, List, length, sum_by, ap, ◌∙◌, ◌&&◌, ◌||◌, if◌then◌else◌, nat_lt, arith, slice_index}
use Rattle.std.specs.Prelude.{slice_set}
use Rattle.std.specs.List.{range_with_len}
use Rattle.dm_network.specs.Net.{Net, activity_at, is_change, places_into, places_out_of, EndsAreKnown}
use Rattle.dm_rows.specs.Active.{has_passed}
use Rattle.dm_rows.specs.Cost.{event_cost, cancelled_weight, charged_weight, cost_charging}
use Rattle.dm_rows.specs.Cost.{missed_weight as rows_missed_weight}
use Rattle.dm_rows.specs.Rows.{RowsValue, is_cancelled}
use Rattle.dm_priced.specs.Priced.{PricedValue, FollowsPrice, is_flagged, late_weight, lost_weight, missed_weight, comes_too_early, lateness_of, cancelled_of, charged_of, missed_of, priced_cost}
use Rattle.dm_priced.specs.Inside.Adding.{AreActivities, LeadToNonePassed, cost_at, late_at, lost_at}
use Rattle.dm_priced.proofs.Changing.{late_is_cost, late_is_nothing, lateness_moves, missed_moves, unpassed_into, none_missed_along}
use Rattle.dm_rows.proofs.Totals.{sum_alike}
use Rattle.dm_network.proofs.EventRows.{leads_into}
use Rattle.dm_network.proofs.EventRows.{leads_out}

pub into_are_activities : (net : Net) (e : ℕ) (row : List ℕ) → row ≡ places_into net e → AreActivities net row
into_are_activities net e row is k lt = (leads_into net e k row is lt).is_activity

pub out_are_activities : (net : Net) (e : ℕ) (row : List ℕ) → row ≡ places_out_of net e → AreActivities net row
out_are_activities net e row is k lt = (leads_out net e k row is lt).is_activity

-- an event that is not cancelled moves
module _ (net : Net) (cancelled : List Bool) (x : List ℕ) (e t lateness : ℕ) (known : lateness ≡ lateness_of net cancelled x)
    (is_event : e < length net.events) (many : length x ≡ length net.events) (runs : is_flagged cancelled e ≡ false)
    (cost was : ℕ) (cost_is : cost ≡ cost_at net e t) (was_is : was ≡ cost_at net e (slice_index x e)) where
  lateness_balance : lateness_of net cancelled (slice_set x e t) + was ≡ lateness + cost
  lateness_balance =
      let moved = lateness_moves net cancelled x e t is_event many in
      let one = late_is_cost net (is_flagged cancelled e) e t runs in
      let other = late_is_cost net (is_flagged cancelled e) e (slice_index x e) runs in
      omega (arith, moved, known, one, other, cost_is, was_is)

  pub lateness_holds : was ≤ lateness + cost
  lateness_holds = let b = lateness_balance in omega (arith, b)

  pub lateness_now : lateness + cost - was ≡ lateness_of net cancelled (slice_set x e t)
  lateness_now = let b = lateness_balance in omega (arith, b)

-- a cancelled one moves
pub lateness_still : (net : Net) (cancelled : List Bool) (x : List ℕ) (e t lateness : ℕ) → lateness ≡ lateness_of net cancelled x →
    e < length net.events → length x ≡ length net.events → is_flagged cancelled e ≡ true → lateness ≡ lateness_of net cancelled (slice_set x e t)
lateness_still net cancelled x e t lateness known is_event many is =
    let moved = lateness_moves net cancelled x e t is_event many in
    let one = late_is_nothing net (is_flagged cancelled e) e t is in
    let other = late_is_nothing net (is_flagged cancelled e) e (slice_index x e) is in
    omega (arith, moved, known, one, other)

module _ (net : Net) (passed cancelled : List Bool) (spans x : List ℕ) (e t missed : ℕ) (known : missed ≡ missed_of net passed cancelled spans x)
    (is_event : e < length net.events) (many : length x ≡ length net.events)
    (into out_of : List ℕ) (into_is : into ≡ places_into net e) (out_is : out_of ≡ places_out_of net e) where
  module _ (now was : ℕ)
      (now_is : now ≡ sum_by (missed_weight net passed cancelled spans (slice_set x e t)) into + sum_by (missed_weight net passed cancelled spans (slice_set x e t)) out_of)
      (was_is : was ≡ sum_by (missed_weight net passed cancelled spans x) into + sum_by (missed_weight net passed cancelled spans x) out_of) where
    missed_balance : missed_of net passed cancelled spans (slice_set x e t) + was ≡ missed + now
    missed_balance =
        let moved = missed_moves net passed cancelled spans x e t (omega arith) into out_of into_is out_is in
        omega (arith, moved, known, now_is, was_is)

    pub missed_holds : was ≤ missed + now
    missed_holds = let b = missed_balance in omega (arith, b)

    pub missed_now : missed + now - was ≡ missed_of net passed cancelled spans (slice_set x e t)
    missed_now = let b = missed_balance in omega (arith, b)

  -- where the event has not passed, and no change out of it leads to one that has
  pub missed_still : is_flagged passed e ≡ false → LeadToNonePassed net passed out_of → missed ≡ missed_of net passed cancelled spans (slice_set x e t)
  missed_still not none =
      let into_now = unpassed_into net passed cancelled spans (slice_set x e t) e into into_is not in
      let into_was = unpassed_into net passed cancelled spans x e into into_is not in
      let out_now = none_missed_along net passed cancelled spans (slice_set x e t) out_of none in
      let out_was = none_missed_along net passed cancelled spans x out_of none in
      let now = missed_now 0 0 (omega (arith, into_now, out_now)) (omega (arith, into_was, out_was)) in
      omega (arith, now)

-- beside rows
module _ (net : Net) (rows : RowsValue) (charges : ℕ → Bool) (priced : PricedValue) (known : EndsAreKnown net) (follows : FollowsPrice net rows charges priced) where
  lateness_alike : lateness_of net priced.cancelled priced.live.times ≡ sum_by (event_cost net rows priced.live.times) (range_with_len 0 (length net.events))
  lateness_alike =
      sum_alike (late_weight net priced.cancelled priced.live.times) (event_cost net rows priced.live.times) 0 (length net.events)
      (λ i le lt. ap (λ (b : Bool). late_at net b i (slice_index priced.live.times i)) (follows.cancelled i (omega arith)))

  cancelled_alike : cancelled_of net priced.cancelled ≡ sum_by (cancelled_weight net rows) (range_with_len 0 (length net.events))
  cancelled_alike =
      sum_alike (lost_weight net priced.cancelled) (cancelled_weight net rows) 0 (length net.events)
      (λ i le lt. ap (λ (b : Bool). lost_at net b i) (follows.cancelled i (omega arith)))

  charged_alike : charged_of net priced.charged ≡ sum_by (charged_weight net charges) (range_with_len 0 (length net.activities))
  charged_alike =
      sum_alike (charged_weight net (is_flagged priced.charged)) (charged_weight net charges) 0 (length net.activities)
      (λ a le lt. ap (λ (b : Bool). if b then (activity_at net a).weight else 0) (follows.charged a (omega arith)))

  missed_alike : missed_of net priced.passed priced.cancelled priced.live.given.spans priced.live.times
      ≡ sum_by (rows_missed_weight net rows priced.live.times) (range_with_len 0 (length net.activities))
  missed_alike =
      sum_alike (missed_weight net priced.passed priced.cancelled priced.live.given.spans priced.live.times) (rows_missed_weight net rows priced.live.times) 0 (length net.activities)
      (λ a le lt.
      let is_activity : a < length net.activities = omega arith in
      let late : Bool → Bool → Bool → ℕ = λ p c e. if is_change (activity_at net a).kind && p && (c || e) then (activity_at net a).weight else 0 in
      let x : ℕ → ℕ = slice_index priced.live.times in
      let early : Bool = comes_too_early net priced.live.given.spans priced.live.times a in
      ap (λ (b : Bool). late b (is_flagged priced.cancelled (activity_at net a).tail) early) (follows.passed (activity_at net a).head (known.heads a is_activity))
      ∙ ap (λ (b : Bool). late (has_passed rows (activity_at net a).head) b early) (follows.cancelled (activity_at net a).tail (known.tails a is_activity))
      ∙ ap (λ (s : ℕ). late (has_passed rows (activity_at net a).head) (is_cancelled rows (activity_at net a).tail) (nat_lt (x (activity_at net a).head) (x (activity_at net a).tail + s))) (follows.spans a is_activity))

  pub costs_as_charged : (penalty : ℕ) → priced_cost net priced penalty ≡ cost_charging net rows charges priced.live.times penalty
  costs_as_charged penalty =
      let four : ℕ → ℕ → ℕ → ℕ → ℕ = λ l c u v. l + penalty * c + penalty * u + penalty * v in
      let cancelled : ℕ = cancelled_of net priced.cancelled in
      let charged : ℕ = charged_of net priced.charged in
      let missed : ℕ = missed_of net priced.passed priced.cancelled priced.live.given.spans priced.live.times in
      let lateness : ℕ = sum_by (event_cost net rows priced.live.times) (range_with_len 0 (length net.events)) in
      let lost : ℕ = sum_by (cancelled_weight net rows) (range_with_len 0 (length net.events)) in
      let weights : ℕ = sum_by (charged_weight net charges) (range_with_len 0 (length net.activities)) in
      ap (λ (l : ℕ). four l cancelled charged missed) lateness_alike
      ∙ ap (λ (c : ℕ). four lateness c charged missed) cancelled_alike
      ∙ ap (λ (u : ℕ). four lateness lost u missed) charged_alike
      ∙ ap (four lateness lost weights) missed_alike
