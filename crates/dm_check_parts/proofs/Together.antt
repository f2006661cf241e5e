-- What the parts of a plan come to together.
use Rattle.std.proofs.Common.{◌≡◌, ℕ, ◌+◌, ◌^◌, ◌<◌, ◌≤◌, Bool, true, false, not, List, [], ◌∷◌, ◌++◌, length, map, take, get_or, refl, sym, ap, subst, ◌∙◌, arith, eqb, eqb-true, eq-eqb, append-nil}
use mathlib.Core.Bool.{beq}
use Rattle.std.specs.Prelude.{◌↔◌, All, sum_by}
use Rattle.std.specs.List.{flat_map}
use Rattle.std.specs.List.Sorted.{IsStrictlyIncreasing}
use Rattle.std.proofs.lemmas.Bool.{both_ways}
use Rattle.std.proofs.lemmas.List.Concat.{flat_map-append}
use Rattle.std.proofs.lemmas.List.Elements.{All-map, All-weaker}
use Rattle.std.proofs.lemmas.List.Folds.{flat_map-map}
use Rattle.std.proofs.lemmas.List.{take_more}
use Rattle.std.proofs.lemmas.List.Sums.{sum_by-cons}
use Rattle.dm_base.specs.declared.ids.EventId.{EventId}
use Rattle.dm_base.specs.declared.ids.ActId.{ActId}
use Rattle.dm_network.specs.Net.{Net}
use Rattle.dm_network.specs.Build.{NoneStandsTwice}
use Rattle.dm_rows.specs.declared.messages.Decision.{Decision}
use Rattle.dm_rows.specs.Rows.{RowsValue}
use Rattle.dm_tree.specs.Plans.{Task, whole_task, CostsRelaxed}
use Rattle.dm_tree.specs.declared.forms.Mark.TheVariants.{Optimal}
use Rattle.dm_tree.specs.Relaxed.{IsRelaxedLeast, relaxed_cost_of}
use Rattle.dm_parts.specs.declared.parts.Part.{Part}
use Rattle.dm_parts.specs.declared.shares.Share.{Share}
use Rattle.dm_parts.specs.declared.parts.PlanByParts.{PlanByParts}
use Rattle.dm_parts.specs.Parts.{task_beside, shares_of, IsTruePart, IsTruePlanByParts}
use Rattle.dm_parts.specs.Shares.{within, beside, IsShare, AreApart}
use Rattle.dm_parts.specs.Sizes.{nodes_of}
use Rattle.dm_parts.specs.Weights.{DifferInWeights}
use Rattle.dm_parts.proofs.Adding.{costs_add_up}
use Rattle.dm_parts.proofs.Alike.{back, in_common, beside_differs}
use Rattle.dm_check_rows.specs.Claims.{Tells}
use Rattle.dm_check_plans.specs.Choosing.{AreTrueChoices}
use Rattle.dm_check_plans.specs.RelaxedProblems.{HasRelaxedCycle}
use Rattle.dm_check_plans.proofs.Told.{least_has_none, one_cost}
use Rattle.dm_network.specs.Start.{IsNetwork}
use Rattle.dm_check_parts.specs.Inside.Claimed.{all_arrivals, all_changes, HasAscending}
use Rattle.dm_check_parts.specs.Inside.Plans.{bounds_of, HasSums, AreTrueTogether}
use Rattle.dm_check_parts.proofs.Apart.{never_in_two, none_twice_in}

-- ---- no term in two shares

same_event : (x y : EventId) → x.0 ≡ y.0 → x ≡ y
same_event x y e = ap (λ (n : ℕ). let id : EventId = record { 0 = n } in id) e

same_activity : (x y : ActId) → x.0 ≡ y.0 → x ≡ y
same_activity x y e = ap (λ (n : ℕ). let id : ActId = record { 0 = n } in id) e

abbrev arrivals_in : Share → List EventId
arrivals_in share = share.arrivals

abbrev changes_in : Share → List ActId
changes_in share = share.changes

abbrev event_number : EventId → ℕ
event_number e = e.0

abbrev activity_number : ActId → ℕ
activity_number a = a.0

arrivals_of_shares : (parts : List Part) → flat_map (λ (share : Share). map event_number share.arrivals) (shares_of parts) ≡ all_arrivals parts
arrivals_of_shares parts = flat_map-map (λ (share : Share). map event_number share.arrivals) (λ (part : Part). part.share) parts

changes_of_shares : (parts : List Part) → flat_map (λ (share : Share). map activity_number share.changes) (shares_of parts) ≡ all_changes parts
changes_of_shares parts = flat_map-map (λ (share : Share). map activity_number share.changes) (λ (part : Part). part.share) parts

pub apart_from : (parts : List Part) → NoneStandsTwice (all_arrivals parts) → NoneStandsTwice (all_changes parts) → AreApart (shares_of parts)
apart_from parts arrivals changes = record {
  arrivals = never_in_two event_number same_event arrivals_in (shares_of parts) (subst NoneStandsTwice (sym (arrivals_of_shares parts)) arrivals);
  changes = never_in_two activity_number same_activity changes_in (shares_of parts) (subst NoneStandsTwice (sym (changes_of_shares parts)) changes);
}

pub arrivals_once : (parts : List Part) → All HasAscending parts → AreApart (shares_of parts) → NoneStandsTwice (all_arrivals parts)
arrivals_once parts ascend apart =
    subst NoneStandsTwice (arrivals_of_shares parts)
    (none_twice_in event_number same_event arrivals_in (shares_of parts)
    (All-map (λ (share : Share). IsStrictlyIncreasing (map event_number share.arrivals)) (λ (part : Part). part.share) parts
    (All-weaker HasAscending (λ (part : Part). IsStrictlyIncreasing (map event_number part.share.arrivals)) (λ part h. h.arrivals) parts ascend))
    apart.arrivals)

pub changes_once : (parts : List Part) → All HasAscending parts → AreApart (shares_of parts) → NoneStandsTwice (all_changes parts)
changes_once parts ascend apart =
    subst NoneStandsTwice (changes_of_shares parts)
    (none_twice_in activity_number same_activity changes_in (shares_of parts)
    (All-map (λ (share : Share). IsStrictlyIncreasing (map activity_number share.changes)) (λ (part : Part). part.share) parts
    (All-weaker HasAscending (λ (part : Part). IsStrictlyIncreasing (map activity_number part.share.changes)) (λ part h. h.changes) parts ascend))
    apart.changes)

-- numbers gathered from one more
module _ {X : Type 0} (f : X → List ℕ) where
  one_flat : (front : List X) (x : X) → flat_map f (front ++ x ∷ []) ≡ flat_map f front ++ f x
  one_flat front x = flat_map-append f front (x ∷ []) ∙ ap (λ (l : List ℕ). flat_map f front ++ l) (append-nil (f x))

  pub gathered_more : (xs : List X) (i : ℕ) (d : X) → i < length xs → (before now : List ℕ) → before ≡ flat_map f (take i xs) →
      now ≡ before ++ f (get_or xs i d) → now ≡ flat_map f (take (i + 1) xs)
  gathered_more xs i d lt before now was grown =
      grown ∙ (ap (λ (l : List ℕ). l ++ f (get_or xs i d)) was
      ∙ (sym (one_flat (take i xs) (get_or xs i d)) ∙ ap (flat_map f) (sym (take_more xs i d lt))))

-- ---- the rest

sum_of_shares : (f : Share → ℕ) (parts : List Part) → sum_by f (shares_of parts) ≡ sum_by (λ (part : Part). f part.share) parts
sum_of_shares f [] = refl
sum_of_shares f (part ∷ parts) =
    let e = sum_of_shares f parts in
    let left = sum_by-cons f part.share (shares_of parts) in
    let right = sum_by-cons (λ (p : Part). f p.share) part parts in
    omega (arith, e, left, right)

module _ (net : Net) (rows : RowsValue) (penalty budget : ℕ) (parts : List Part) where
  abbrev shares : List Share
  shares = shares_of parts

  -- what the parts cost and what stands beside them are the whole
  pub parts_are_few : (path : List Decision) (x : List ℕ) → AreApart shares →
      sum_by (λ (part : Part). relaxed_cost_of (within net part.share) rows path x penalty) parts ≤ relaxed_cost_of net rows path x penalty
  parts_are_few path x apart =
      let adds = costs_add_up.relaxed net rows path shares x penalty apart in
      let e = sum_of_shares (λ (share : Share). relaxed_cost_of (within net share) rows path x penalty) parts in
      omega (arith, adds, e)

  beside_is : (x : List ℕ) (left : ℕ) → AreApart shares →
      left + sum_by (λ (part : Part). relaxed_cost_of (within net part.share) rows [] x penalty) parts ≡ relaxed_cost_of net rows [] x penalty →
      left ≡ relaxed_cost_of (beside net shares) rows [] x penalty
  beside_is x left apart sum =
      let adds = costs_add_up.relaxed net rows [] shares x penalty apart in
      let e = sum_of_shares (λ (share : Share). relaxed_cost_of (within net share) rows [] x penalty) parts in
      omega (arith, adds, e, sum)

  to_beside : DifferInWeights net (beside net shares)
  to_beside = beside_differs net shares

  pub rest_told : (x : List ℕ) → IsRelaxedLeast net rows [] x → (left rest : ℕ) (b : Bool) → AreApart shares →
      left + sum_by (λ (part : Part). relaxed_cost_of (within net part.share) rows [] x penalty) parts ≡ relaxed_cost_of net rows [] x penalty →
      b ≡ eqb left rest → Tells (CostsRelaxed (task_beside (whole_task net rows penalty budget) shares) [] rest) b
  rest_told x least left rest true apart sum e = record {
    times = x;
    least = (in_common net (beside net shares) to_beside).relaxed_least rows [] x least;
    cost = sym (eqb-true left rest (sym e)) ∙ beside_is x left apart sum;
  }
  rest_told x least left rest false apart sum e = λ t.
      both_ways (eqb left rest) (sym e)
      (eq-eqb left rest (beside_is x left apart sum
      ∙ sym (one_cost (beside net shares) rows penalty budget [] x ((in_common net (beside net shares) to_beside).relaxed_least rows [] x least) rest t)))

  pub no_rest : IsNetwork net → HasRelaxedCycle net rows [] → (rest : ℕ) → CostsRelaxed (task_beside (whole_task net rows penalty budget) shares) [] rest → ⊥
  no_rest network some rest t =
      least_has_none net rows penalty budget [] network t.times
      ((in_common (beside net shares) net (back net (beside net shares) to_beside)).relaxed_least rows [] t.times t.least) some.cycle some.is_cycle

-- ---- the whole plan

module _ (task : Task) (parts : List Part) (all : All (IsTruePart task) parts) where
  pub all_shares : All (λ (part : Part). IsShare task.net part.share) parts
  all_shares = All-weaker (IsTruePart task) (λ (part : Part). IsShare task.net part.share) (λ part p. p.share) parts all

  pub all_ascend : All HasAscending parts
  all_ascend = All-weaker (IsTruePart task) HasAscending (λ part p. record { arrivals = p.share.arrivals_ascend; changes = p.share.changes_ascend }) parts all

  pub together_told : (rest : ℕ) → AreApart (shares_of parts) → (b : Bool) → Tells (CostsRelaxed (task_beside task (shares_of parts)) [] rest) b → Tells (AreTrueTogether task parts rest) b
  together_told rest apart true is = record { parts = all; apart = apart; rest = is }
  together_told rest apart false none = λ t. none t.rest

module _ (net : Net) (rows : RowsValue) (penalty budget : ℕ) (plan : PlanByParts) where
  abbrev whole : Task
  whole = whole_task net rows penalty budget

  pub its_sums : IsTruePlanByParts whole plan → HasSums budget plan
  its_sums p = record { bound = p.bound; mark = p.mark; size = p.size }

  pub its_choices : IsTruePlanByParts whole plan → AreTrueChoices whole plan.choices plan.cost
  its_choices p = record { in_order = p.choices; differ = p.differ; costs = p.cost }

  pub plan_told : HasSums budget plan → AreTrueChoices whole plan.choices plan.cost → (b : Bool) → Tells (AreTrueTogether whole plan.parts plan.rest) b → Tells (IsTruePlanByParts whole plan) b
  plan_told sums choices true t = record {
    choices = choices.in_order;
    differ = choices.differ;
    cost = choices.costs;
    parts = t.parts;
    apart = t.apart;
    rest = t.rest;
    bound = sums.bound;
    mark = sums.mark;
    size = sums.size;
  }
  plan_told sums choices false none = λ p. none (record { parts = p.parts; apart = p.apart; rest = p.rest })

-- ---- the sums

-- they hold exactly where the sum is the bound
pub sums_told : (budget total : ℕ) (plan : PlanByParts) → total ≡ bounds_of plan.parts + plan.rest → (plan.mark ≡ Optimal) ↔ (plan.bound ≡ plan.cost) → nodes_of plan.parts ≤ budget →
    (b : Bool) → b ≡ eqb total plan.bound → Tells (HasSums budget plan) b
sums_told budget total plan is mark size true e = record { bound = sym (eqb-true total plan.bound (sym e)) ∙ is; mark = mark; size = size }
sums_told budget total plan is mark size false e = λ t. both_ways (eqb total plan.bound) (sym e) (eq-eqb total plan.bound (is ∙ sym t.bound))

pub too_large : (budget : ℕ) (plan : PlanByParts) → plan.bound < 2 ^ 128 → 2 ^ 128 ≤ bounds_of plan.parts + plan.rest → HasSums budget plan → ⊥
too_large budget plan small large t = let is = t.bound in omega (arith, small, large, is)

-- whether two numbers are the same is told by the test of it
pub equal_told : (a b : ℕ) (t : Bool) → t ≡ eqb a b → Tells (a ≡ b) t
equal_told a b true e = eqb-true a b (sym e)
equal_told a b false e = λ same. both_ways (eqb a b) (sym e) (eq-eqb a b same)

-- two answers that are compared are the same, or they are not
pub same_answers : (a b : Bool) → not (beq a b) ≡ false → a ≡ b
same_answers true true e = refl
same_answers true false e = cc
same_answers false true e = cc
same_answers false false e = refl

pub other_answers : (a b : Bool) → not (beq a b) ≡ true → a ≡ b → ⊥
other_answers true true e same = cc
other_answers true false e same = cc
other_answers false true e same = cc
other_answers false false e same = cc

-- two answers that say whether two claims hold are one exactly where these say the same
pub same_told : (P Q : Type 0) (a b : Bool) → Tells P a → Tells Q b → a ≡ b → P ↔ Q
same_told P Q true true p q e = (λ h. q, λ h. p)
same_told P Q true false p q e = cc
same_told P Q false true p q e = cc
same_told P Q false false p q e = (λ h. absurd (p h), λ h. absurd (q h))

pub others_told : (P Q : Type 0) (a b : Bool) → Tells P a → Tells Q b → (a ≡ b → ⊥) → (P ↔ Q) → ⊥
others_told P Q true true p q other same = other refl
others_told P Q true false p q other same = q (same.0 p)
others_told P Q false true p q other same = p (same.1 q)
others_told P Q false false p q other same = other refl
