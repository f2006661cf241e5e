-- No sum is above what the limits allow.
use Rattle.std.proofs.Common.{ℕ, ◌+◌, ◌*◌, ◌^◌, ◌<◌, ◌≤◌, ◌&&◌, not, Bool, true, false, List, length, arith, if◌then◌else◌}
use native.Mathlib.Nat.{mul-le-mul}
use Rattle.dm_base.specs.declared.limits.TheConstants.{EVENTS, ACTIVITIES, WEIGHT}
use Rattle.dm_network.specs.Net.{Net, event_at, IsWithinLimits}
use Rattle.dm_rows.specs.Cost.{charged_weight, is_arrival}
use Rattle.dm_settle.specs.Settling.{AreEarly}
use Rattle.dm_priced.specs.Priced.{is_flagged, late_weight, lost_weight, missed_weight, lateness_of, cancelled_of, charged_of, missed_of}
use Rattle.dm_rows.proofs.Totals.{sum_within}

chosen : (b : Bool) (w m : ℕ) → w ≤ m → (if b then w else 0) ≤ m
chosen true w m le = le
chosen false w m le = omega arith

product : (w d : ℕ) → w ≤ WEIGHT → d < 2 ^ 38 → w * d ≤ WEIGHT * 2 ^ 38
product w d le lt = mul-le-mul le (let last : d ≤ 2 ^ 38 = omega arith in last)

module _ (net : Net) (within : IsWithinLimits net) where
  pub lateness_within : (cancelled : List Bool) (x : List ℕ) → AreEarly x → lateness_of net cancelled x ≤ EVENTS * (WEIGHT * 2 ^ 38)
  lateness_within cancelled x early =
      let few = within.events in
      let all = sum_within (late_weight net cancelled x) (WEIGHT * 2 ^ 38) 0 (length net.events)
      (λ i. let weight = within.event_weights i in let time = early i in
      chosen (is_arrival (event_at net i).kind && not (is_flagged cancelled i)) _ _ (product _ _ weight (omega arith))) in
      omega (arith, few, all)

  cancelled_within : (cancelled : List Bool) → cancelled_of net cancelled ≤ EVENTS * WEIGHT
  cancelled_within cancelled =
      let few = within.events in
      let all = sum_within (lost_weight net cancelled) WEIGHT 0 (length net.events) (λ i. chosen _ _ _ (within.event_weights i)) in
      omega (arith, few, all)

  charges_within : (charged : List Bool) → charged_of net charged ≤ ACTIVITIES * WEIGHT
  charges_within charged =
      let few = within.activities in
      let all = sum_within (charged_weight net (is_flagged charged)) WEIGHT 0 (length net.activities)
      (λ a. chosen (is_flagged charged a) _ _ (within.activity_weights a)) in
      omega (arith, few, all)

  pub charged_within : (cancelled charged : List Bool) → cancelled_of net cancelled + charged_of net charged ≤ (EVENTS + ACTIVITIES) * WEIGHT
  charged_within cancelled charged =
      let one = cancelled_within cancelled in
      let other = charges_within charged in
      omega (arith, one, other)

  pub missed_within : (passed cancelled : List Bool) (spans x : List ℕ) → missed_of net passed cancelled spans x ≤ ACTIVITIES * WEIGHT
  missed_within passed cancelled spans x =
      let few = within.activities in
      let all = sum_within (missed_weight net passed cancelled spans x) WEIGHT 0 (length net.activities)
      (λ a. chosen _ _ _ (within.activity_weights a)) in
      omega (arith, few, all)
