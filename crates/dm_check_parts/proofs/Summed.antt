-- Costs and weights that are summed over the ids of a share, and what they come to.
use Rattle.std.proofs.Common.{◌≡◌, ℕ, ◌+◌, ◌*◌, ◌<◌, ◌≤◌, Bool, List, length, take, get_or, sym, ap, ◌∙◌, arith}
use Rattle.std.specs.Prelude.{sum_by}
use Rattle.std.proofs.Math.Nat.{mul-add}
use Rattle.std.proofs.lemmas.List.{take_all}
use Rattle.std.proofs.lemmas.List.Sums.{sum_by_more}
use Rattle.dm_base.specs.declared.ids.ActId.{ActId}
use Rattle.dm_network.specs.Net.{Net, activity_place}
use Rattle.dm_network.specs.Start.{IsNetwork}
use Rattle.dm_rows.specs.declared.messages.Decision.{Decision}
use Rattle.dm_rows.specs.Cost.{cost_charging, charged_weight, missed_weight}
use Rattle.dm_rows.specs.Relax.{is_relaxed_lost}
use Rattle.dm_rows.specs.Rows.{RowsValue}
use Rattle.dm_tree.specs.Relaxed.{relaxed_cost_of}
use Rattle.dm_parts.specs.declared.shares.Share.{Share}
use Rattle.dm_parts.specs.Shares.{within, IsShare}
use Rattle.dm_parts.specs.Sums.{at_place, lateness_of, cancelled_of, charged_of, missed_of}
use Rattle.dm_parts.specs.Weights.{DifferInWeights}
use Rattle.dm_parts.proofs.Alike.{agreeing, same_relaxed_dropped, within_differs}
use Rattle.dm_parts.proofs.Adding.{sum_of_sums}
use Rattle.dm_parts.proofs.Listed.{costs_within_are_sums}
use Rattle.dm_check_plans.proofs.Relaxed.{relaxed_cost}

-- the sum over the first i of a list, where each adds at most so much
pub record IsSumTo {X : Type 0} (f : X → ℕ) (xs : List X) (most i total : ℕ) : Type 0 where
  pub sum : total ≡ sum_by f (take i xs)
  pub bound : total ≤ i * most

pub sum_next : {X : Type 0} (f : X → ℕ) (xs : List X) (most i total new : ℕ) (d : X) → i < length xs → new ≡ f (get_or xs i d) → new ≤ most →
    IsSumTo f xs most i total → IsSumTo f xs most (i + 1) (total + new)
sum_next f xs most i total new d lt is few t =
    let grown = sum_by_more f xs i d lt in
    let sum = t.sum in
    let bound = t.bound in
    record { sum = omega (arith, grown, is, sum); bound = omega (arith, bound, few) }

pub sum_all : {X : Type 0} (f : X → ℕ) (xs : List X) (most i total : ℕ) → length xs ≤ i → IsSumTo f xs most i total → total ≡ sum_by f xs
sum_all f xs most i total past t = t.sum ∙ ap (sum_by f) (take_all i xs past)

-- what the lateness, and the penalty for the weights, of a share's ids come to is the relaxed cost within the share
pub cost_is : (net : Net) (rows : RowsValue) (path : List Decision) (share : Share) (x : List ℕ) (penalty late gone weights : ℕ) → IsNetwork net → IsShare net share →
    late ≡ lateness_of net share rows x → gone ≡ cancelled_of net share rows →
    weights ≡ sum_by (λ (id : ActId). at_place (charged_weight net (is_relaxed_lost net rows path)) (activity_place net id) + at_place (missed_weight net rows x) (activity_place net id)) share.changes →
    late + penalty * (gone + weights) ≡ relaxed_cost_of (within net share) rows path x penalty
cost_is net rows path share x penalty late gone weights network is_share late_is gone_is weights_are =
    let other : Net = within net share in
    let differ : DifferInWeights net other = within_differs net share in
    let charged : (ℕ → Bool) = is_relaxed_lost net rows path in
    let same : is_relaxed_lost other rows path ≡ charged = agreeing (λ a. sym (same_relaxed_dropped net other differ rows path a)) in
    let relaxed : cost_charging other rows (is_relaxed_lost other rows path) x penalty ≡ relaxed_cost_of other rows path x penalty = relaxed_cost other rows path x penalty in
    let summed : cost_charging other rows (is_relaxed_lost other rows path) x penalty
    ≡ lateness_of net share rows x + penalty * cancelled_of net share rows + penalty * charged_of net share (is_relaxed_lost other rows path)
    + penalty * missed_of net share rows x =
    costs_within_are_sums net share rows (is_relaxed_lost other rows path) x penalty network is_share in
    let charged_alike : penalty * charged_of net share (is_relaxed_lost other rows path) ≡ penalty * charged_of net share charged =
    ap (λ (c : ℕ → Bool). penalty * charged_of net share c) same in
    let split : weights ≡ charged_of net share charged + missed_of net share rows x =
    weights_are ∙ sum_of_sums (λ (id : ActId). at_place (charged_weight net charged) (activity_place net id)) (λ (id : ActId). at_place (missed_weight net rows x) (activity_place net id)) share.changes in
    let both = mul-add penalty gone weights in
    let away : penalty * gone ≡ penalty * cancelled_of net share rows = ap (λ (k : ℕ). penalty * k) gone_is in
    let parts = mul-add penalty (charged_of net share charged) (missed_of net share rows x) in
    let times : penalty * weights ≡ penalty * (charged_of net share charged + missed_of net share rows x) = ap (λ (k : ℕ). penalty * k) split in
    omega (arith, late_is, relaxed, summed, charged_alike, both, away, parts, times)
