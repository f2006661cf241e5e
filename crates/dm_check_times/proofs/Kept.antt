-- Costs that are kept.
use Rattle.std.proofs.Common.{◌≡◌, ℕ, zero, suc, ◌+◌, ◌-◌, ◌*◌, ◌^◌, ◌<◌, ◌≤◌, [], ◌∷◌, Bool, true, false, cond, List, length, refl, sym, ap, subst, ◌∙◌, inl, inr, arith, slice_index, length-set, get_or-set_same, get_or-set_other, if◌then◌else◌}
use Rattle.std.specs.Prelude.{not, ◌&&◌, sum_by, slice_set, replicate}
use Rattle.std.specs.List.{range_with_len}
use Rattle.std.proofs.lemmas.Bool.{cases_eq, cases_lt}
use Rattle.std.proofs.lemmas.List.{get_or_past, get_or-replicate, length-replicate}
use Rattle.std.proofs.lemmas.List.Sums.{sum_by-cons}
use native.Mathlib.Nat.{mul-le-mul}
use Rattle.std.proofs.Math.Nat.{mul-add}
use Rattle.dm_base.specs.declared.limits.TheConstants.{EVENTS, WEIGHT}
use Rattle.dm_network.specs.Net.{Net, event_at, IsWithinLimits}
use Rattle.dm_rows.specs.Rows.{RowsValue, is_cancelled}
use Rattle.dm_rows.specs.Cost.{event_cost, cancelled_weight, charged_weight, missed_weight, cost_charging, is_arrival}
use Rattle.dm_check_times.specs.Binding.{AreBelowLimit}
use Rattle.dm_check_times.specs.KeptCosts.{KeptCostValue, IsKeptCostOf, IsLateFor, IsPricedFor, priced_weight}
use Rattle.dm_rows.proofs.Totals.{sum_alike, sum_moves, sum_within}
use Rattle.dm_check_times.proofs.Renewing.{at_most_set}

-- ---- sums over places

one_of_all : (f : ℕ → ℕ) (i a n : ℕ) → a ≤ i → i < a + n → f i ≤ sum_by f (range_with_len a n)
one_of_all f i a zero le lt = absurd (omega arith)
one_of_all f i a (suc n) le lt =
    let all = sum_by-cons f a (range_with_len (a + 1) n) in
    elim (cases_eq a i) [
      | inl is ↦ let same : f a ≡ f i = ap f is in omega (arith, all, same)
      | inr ne ↦ let rest = one_of_all f i (a + 1) n (omega arith) (omega arith) in omega (arith, all, rest)
    ]

-- ---- what costs

sum_parts : (f g h : ℕ → ℕ) (xs : List ℕ) → ((k : ℕ) → f k ≡ g k + h k) → sum_by f xs ≡ sum_by g xs + sum_by h xs
sum_parts f g h [] each = refl
sum_parts f g h (x ∷ xs) each =
    let one : f x ≡ g x + h x = each x in
    let rest : sum_by f xs ≡ sum_by g xs + sum_by h xs = sum_parts f g h xs each in
    let all : sum_by f (x ∷ xs) ≡ f x + sum_by f xs = sum_by-cons f x xs in
    let left : sum_by g (x ∷ xs) ≡ g x + sum_by g xs = sum_by-cons g x xs in
    let right : sum_by h (x ∷ xs) ≡ h x + sum_by h xs = sum_by-cons h x xs in
    omega (arith, one, rest, all, left, right)

-- what the times cost, by the lateness, the cancelled arrivals and the weights of which the penalty is taken
pub cost_in_parts : (net : Net) (rows : RowsValue) (charges : ℕ → Bool) (times : List ℕ) (penalty late gone total cost : ℕ) →
    late ≡ sum_by (event_cost net rows times) (range_with_len 0 (length net.events)) →
    gone ≡ sum_by (cancelled_weight net rows) (range_with_len 0 (length net.events)) →
    total ≡ sum_by (priced_weight net rows charges times) (range_with_len 0 (length net.activities)) → cost ≡ late + penalty * (gone + total) →
    cost ≡ cost_charging net rows charges times penalty
cost_in_parts net rows charges times penalty late gone total cost late_is gone_is total_is is =
    let parts = sum_parts (priced_weight net rows charges times) (charged_weight net charges) (missed_weight net rows times) (range_with_len 0 (length net.activities)) (λ a. refl) in
    let each = mul-add penalty (sum_by (charged_weight net charges) (range_with_len 0 (length net.activities))) (sum_by (missed_weight net rows times) (range_with_len 0 (length net.activities))) in
    let both = mul-add penalty gone total in
    let product = ap (λ (n : ℕ). penalty * n) (total_is ∙ parts) in
    let away = ap (λ (n : ℕ). penalty * n) gone_is in
    omega (arith, is, late_is, product, away, both, each)

-- where it is priced for the rows, the sums are their cost
pub kept_cost : (net : Net) (rows : RowsValue) (charges : ℕ → Bool) (kept : KeptCostValue) → IsKeptCostOf net kept → IsPricedFor net rows charges kept → (penalty cost : ℕ) →
    cost ≡ kept.lateness + penalty * (kept.cancelled + kept.penalized) → cost ≡ cost_charging net rows charges kept.times penalty
kept_cost net rows charges kept is_kept priced penalty cost is =
    let same = sum_alike (slice_index kept.weights) (priced_weight net rows charges kept.times) 0 (length net.activities) (λ a from below. priced.weights a (omega arith)) in
    cost_in_parts net rows charges kept.times penalty kept.lateness kept.cancelled kept.penalized cost priced.late.lateness priced.late.cancelled (is_kept.weighed.sum ∙ same) is

-- ---- a time that changes

chosen : (b : Bool) (w m : ℕ) → w ≤ m → (if b then w else 0) ≤ m
chosen true w m le = le
chosen false w m le = omega arith

product : (w d : ℕ) → w ≤ WEIGHT → d < 2 ^ 38 → w * d ≤ WEIGHT * 2 ^ 38
product w d le lt = mul-le-mul le (let last : d ≤ 2 ^ 38 = omega arith in last)

lateness_within : (net : Net) → IsWithinLimits net → (rows : RowsValue) (x : List ℕ) → AreBelowLimit x →
    sum_by (event_cost net rows x) (range_with_len 0 (length net.events)) ≤ EVENTS * (WEIGHT * 2 ^ 38)
lateness_within net within rows x early =
    let few = within.events in
    let all = sum_within (event_cost net rows x) (WEIGHT * 2 ^ 38) 0 (length net.events)
    (λ i. let weight = within.event_weights i in let time = early i in
    chosen (is_arrival (event_at net i).kind && not (is_cancelled rows i)) _ _ (product _ _ weight (omega arith))) in
    omega (arith, few, all)

below_set : (x : List ℕ) (i time : ℕ) → AreBelowLimit x → time < 2 ^ 38 → AreBelowLimit (slice_set x i time)
below_set x i time early less k =
    let most = at_most_set x i time (2 ^ 38 - 1) (λ j. let e = early j in omega arith) (omega arith) k in
    omega arith

other_cost : (net : Net) (rows : RowsValue) (x : List ℕ) (i time k : ℕ) → (k ≡ i → ⊥) → event_cost net rows (slice_set x i time) k ≡ event_cost net rows x k
other_cost net rows x i time k ne =
    ap (λ (t : ℕ). cond (is_arrival (event_at net k).kind && not (is_cancelled rows k)) ((event_at net k).weight * (t - (event_at net k).time)) 0) (get_or-set_other x i k time 0 ne)

-- what lateness costs with another time of an event
pub put_lateness : (net : Net) (rows : RowsValue) (x : List ℕ) (i time had was now lateness : ℕ) → i < length net.events →
    had ≡ sum_by (event_cost net rows x) (range_with_len 0 (length net.events)) →
    was ≡ event_cost net rows x i → now ≡ event_cost net rows (slice_set x i time) i → lateness ≡ had + now - was →
    lateness ≡ sum_by (event_cost net rows (slice_set x i time)) (range_with_len 0 (length net.events))
put_lateness net rows x i time had was now lateness below had_is was_is now_is is =
    let moves = sum_moves (event_cost net rows x) (event_cost net rows (slice_set x i time)) i (other_cost net rows x i time) 0 (length net.events) (omega arith) (omega arith) in
    omega (arith, moves, had_is, was_is, now_is, is)

pub puts : (net : Net) → IsWithinLimits net → (rows : RowsValue) (kept : KeptCostValue) (i time lateness : ℕ) → IsKeptCostOf net kept → time < 2 ^ 38 →
    lateness ≡ sum_by (event_cost net rows (slice_set kept.times i time)) (range_with_len 0 (length net.events)) →
    IsKeptCostOf net
    (record { times = slice_set kept.times i time; lateness = lateness; cancelled = kept.cancelled; weights = kept.weights; penalized = kept.penalized })
puts net within rows kept i time lateness is_kept early all =
    let few = lateness_within net within rows (slice_set kept.times i time) (below_set kept.times i time is_kept.late.early early) in
    record {
      late = record {
        as_many = length-set kept.times i time ∙ is_kept.late.as_many;
        early = below_set kept.times i time is_kept.late.early early;
        limit = omega (arith, all, few);
        few_cancelled = is_kept.late.few_cancelled;
      };
      weighed = is_kept.weighed;
    }

-- ---- a weight that changes

pub sets : (net : Net) → IsWithinLimits net → (kept : KeptCostValue) (a weight penalized : ℕ) → IsKeptCostOf net kept → a < length net.activities → weight ≤ 2 * WEIGHT →
    penalized ≡ kept.penalized + weight - slice_index kept.weights a →
    IsKeptCostOf net
    (record { times = kept.times; lateness = kept.lateness; cancelled = kept.cancelled; weights = slice_set kept.weights a weight; penalized = penalized })
sets net within kept a weight penalized is_kept below le is =
    let size = is_kept.weighed.as_many in
    let moves = sum_moves (slice_index kept.weights) (slice_index (slice_set kept.weights a weight)) a (λ k ne. get_or-set_other kept.weights a k weight 0 ne) 0 (length net.activities) (omega arith) (omega arith) in
    let there : slice_index (slice_set kept.weights a weight) a ≡ weight = get_or-set_same kept.weights a weight 0 (omega arith) in
    let had = is_kept.weighed.sum in
    let all : penalized ≡ sum_by (slice_index (slice_set kept.weights a weight)) (range_with_len 0 (length net.activities)) = omega (arith, moves, there, had, is) in
    let small = at_most_set kept.weights a weight (2 * WEIGHT) is_kept.weighed.small le in
    let few = sum_within (slice_index (slice_set kept.weights a weight)) (2 * WEIGHT) 0 (length net.activities) small in
    let activities = within.activities in
    record {
      late = is_kept.late;
      weighed = record { as_many = length-set kept.weights a weight ∙ size; small = small; sum = all; limit = omega (arith, all, few, activities) };
    }

-- what is taken off is no more than there is
pub enough_weight : (net : Net) (kept : KeptCostValue) (a was : ℕ) → IsKeptCostOf net kept → a < length net.activities → was ≡ slice_index kept.weights a → was ≤ kept.penalized
enough_weight net kept a was is_kept below is =
    let part = one_of_all (slice_index kept.weights) a 0 (length net.activities) (omega arith) (omega arith) in
    let had = is_kept.weighed.sum in
    omega (arith, part, had, is)

no_weight : (n k : ℕ) → slice_index (replicate n 0) k ≤ 0
no_weight n k =
    elim (cases_lt k n) [
      | inl below ↦ let e : slice_index (replicate n 0) k ≡ 0 = get_or-replicate n k 0 0 below in omega arith
      | inr past ↦ let e : slice_index (replicate n 0) k ≡ 0 = get_or_past (replicate n 0) k 0 (subst (λ (m : ℕ). m ≤ k) (sym (length-replicate n 0)) past) in omega arith
    ]

pub begins : (net : Net) (times weights : List ℕ) → times ≡ replicate (length net.events) 0 → weights ≡ replicate (length net.activities) 0 →
    IsKeptCostOf net (record { times = times; lateness = 0; cancelled = 0; weights = weights; penalized = 0 })
begins net times weights zeros none =
    let early : (k : ℕ) → slice_index times k ≤ 0 = λ k. subst (λ (xs : List ℕ). slice_index xs k ≤ 0) (sym zeros) (no_weight (length net.events) k) in
    let small : (k : ℕ) → slice_index weights k ≤ 0 = λ k. subst (λ (xs : List ℕ). slice_index xs k ≤ 0) (sym none) (no_weight (length net.activities) k) in
    let all = sum_within (slice_index weights) 0 0 (length net.activities) small in
    record {
      late = record {
        as_many = ap (λ (xs : List ℕ). length xs) zeros ∙ length-replicate (length net.events) 0;
        early = λ k. let e = early k in omega arith;
        limit = omega arith;
        few_cancelled = omega arith;
      };
      weighed = record {
        as_many = ap (λ (xs : List ℕ). length xs) none ∙ length-replicate (length net.activities) 0;
        small = λ k. let s = small k in omega arith;
        sum = omega (arith, all);
        limit = omega arith;
      };
    }

-- what is taken off is no more than there is
pub enough : (net : Net) (rows : RowsValue) (kept : KeptCostValue) (i was : ℕ) → IsLateFor net rows kept → i < length net.events → was ≡ event_cost net rows kept.times i → was ≤ kept.lateness
enough net rows kept i was late below is =
    let part = one_of_all (event_cost net rows kept.times) i 0 (length net.events) (omega arith) (omega arith) in
    let had = late.lateness in
    omega (arith, part, had, is)
