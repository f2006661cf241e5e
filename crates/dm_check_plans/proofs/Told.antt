-- What is told of a node, by the least times of the relaxed problem of its path.
use Rattle.std.proofs.Common.{◌≡◌, ℕ, ◌<◌, ◌≤◌, Bool, true, false, IsTrue, List, length, eqb, eqb-true, eq-eqb, refl, sym, ap, subst, ◌∙◌, arith}
use Rattle.std.specs.Prelude.{◌↔◌}
use Rattle.std.proofs.lemmas.Bool.{both_ways}
use Rattle.std.proofs.lemmas.List.{ext_get_or}
use Rattle.dm_network.specs.Net.{Net}
use Rattle.dm_network.specs.Start.{IsNetwork}
use Rattle.dm_rows.specs.declared.messages.Choice.{Choice}
use Rattle.dm_rows.specs.declared.messages.Decision.{Decision}
use Rattle.dm_rows.specs.Cost.{Costs, cost_of}
use Rattle.dm_rows.specs.Decide.{with_decisions}
use Rattle.dm_rows.specs.Relax.{is_relaxed_active, is_undecided_change, is_undecided_pair}
use Rattle.dm_rows.specs.Rows.{RowsValue}
use Rattle.dm_rows.specs.Timetable.{IsLeastHolding}
use Rattle.dm_rows.proofs.AsGraph.{relaxed_enter_no_passed}
use Rattle.dm_rows.proofs.Holding.{held_is_met_exactly_without_cycle}
use Rattle.dm_tree.specs.declared.forms.Node.{Node}
use Rattle.dm_tree.specs.declared.forms.Node.TheVariants.{Inner, Cycle, Bound, Open, Hole}
use Rattle.dm_tree.specs.Relaxed.{IsRelaxedLeast, RelaxedCosts, relaxed_cost_of, HasNoRelaxedCycle, IsViolated}
use Rattle.dm_tree.specs.Plans.{whole_task, IsViolatedThere, IsTrueInner, IsTrueBound, IsTrueOpen}
use Rattle.dm_rows.specs.Sides.{IsOrdered}
use Rattle.dm_check_rows.specs.Claims.{Tells}
use Rattle.dm_check_plans.specs.RelaxedProblems.{HasRelaxedCycle}
use Rattle.dm_check_plans.specs.Inside.Violations.{IsSomeViolated}
use Rattle.dm_check_plans.specs.Visiting.{IsNextOpen}
use Rattle.dm_check_plans.specs.Inside.Visiting.{IsTrueNode, is_cycle}
use Rattle.dm_paths.specs.declared.places.ChoicePlace.{ChoicePlace}
use Rattle.dm_paths.specs.Decisions.{IsOpen}
use Rattle.dm_paths.specs.Places.{at_place, IsPlaceOf}
use Rattle.dm_paths.proofs.Open.{violated_is_open, open_where_flagged, flagged_where_open}

pub one_least : (net : Net) (rows : RowsValue) (held : ℕ → Bool) (x y : List ℕ) → IsLeastHolding net rows held x → IsLeastHolding net rows held y → x ≡ y
one_least net rows held x y p q =
    let a = p.meets.size in
    let b = q.meets.size in
    ext_get_or 0 x y (omega (arith, a, b))
    (λ i below.
    let lt : i < length net.events = omega (arith, below, a) in
    let down = p.earliest y q.meets i lt in
    let up = q.earliest x p.meets i lt in
    omega arith)

one_own : (net : Net) (rows : RowsValue) (penalty a b : ℕ) → Costs net rows penalty a → Costs net rows penalty b → a ≡ b
one_own net rows penalty a b p q =
    p.cost ∙ ap (λ (x : List ℕ). cost_of net rows x penalty) (one_least net rows _ p.times q.times p.least q.least) ∙ sym q.cost

-- a flag tells whether a choice is open
pub open_is_told : (net : Net) → IsNetwork net → (rows : RowsValue) (path : List Decision) (choice : Choice) (place : ChoicePlace) → IsPlaceOf net choice place → (b : Bool) →
    b ≡ at_place (is_undecided_change net rows path) (is_undecided_pair net rows path) place → Tells (IsOpen net rows path choice) b
open_is_told net network rows path choice place there true flag = open_where_flagged net network rows path choice place there (sym flag)
open_is_told net network rows path choice place there false flag = λ o.
    both_ways (at_place (is_undecided_change net rows path) (is_undecided_pair net rows path) place) (sym flag) (flagged_where_open net network rows path choice place there o)

module _ (net : Net) (rows : RowsValue) (penalty budget : ℕ) (path : List Decision) where
  -- where some timetable is least there is no cycle
  pub least_has_none : IsNetwork net → (x : List ℕ) → IsRelaxedLeast net rows path x → HasNoRelaxedCycle net rows path
  least_has_none network x least =
      (held_is_met_exactly_without_cycle net (with_decisions net rows path) (is_relaxed_active net rows path) network (relaxed_enter_no_passed net rows path)).0 (x, least.meets)

  pub cycle_told : IsNetwork net → HasRelaxedCycle net rows path → (plan_cost : ℕ) (n : Node) (b : Bool) → b ≡ is_cycle n → Tells (IsTrueNode (whole_task net rows penalty budget) plan_cost path n) b
  cycle_told network some plan_cost (Inner c) true e = cc
  cycle_told network some plan_cost (Inner c) false e = λ t. t.no_cycle some.cycle some.is_cycle
  cycle_told network some plan_cost Cycle true e = record { cycle = some.cycle; is_cycle = some.is_cycle }
  cycle_told network some plan_cost Cycle false e = cc
  cycle_told network some plan_cost (Bound c) true e = cc
  cycle_told network some plan_cost (Bound c) false e = λ t. least_has_none network t.cost.times t.cost.least some.cycle some.is_cycle
  cycle_told network some plan_cost (Open c) true e = cc
  cycle_told network some plan_cost (Open c) false e = λ t. least_has_none network t.violated.times t.violated.least some.cycle some.is_cycle
  cycle_told network some plan_cost Hole true e = cc
  cycle_told network some plan_cost Hole false e = λ t. t

  module _ (times : List ℕ) (least : IsRelaxedLeast net rows path times) where
    pub one_cost : (c : ℕ) → RelaxedCosts net rows path penalty c → c ≡ relaxed_cost_of net rows path times penalty
    one_cost c costs =
        costs.cost ∙ ap (λ (x : List ℕ). relaxed_cost_of net rows path x penalty)
        (one_least net (with_decisions net rows path) (is_relaxed_active net rows path) costs.times times costs.least least)

    there_cost : (choice : Choice) (c : ℕ) → IsViolatedThere (whole_task net rows penalty budget) path choice c → c ≡ relaxed_cost_of net rows path times penalty
    there_cost choice c v =
        v.cost ∙ ap (λ (x : List ℕ). relaxed_cost_of net rows path x penalty)
        (one_least net (with_decisions net rows path) (is_relaxed_active net rows path) v.times times v.least least)

    there_violated : (choice : Choice) (c : ℕ) → IsViolatedThere (whole_task net rows penalty budget) path choice c → IsViolated net rows path times choice
    there_violated choice c v =
        subst (λ (x : List ℕ). IsViolated net rows path x choice)
        (one_least net (with_decisions net rows path) (is_relaxed_active net rows path) v.times times v.least least) v.violated

    pub bound_told : (plan_cost cost c : ℕ) (b : Bool) → cost ≡ relaxed_cost_of net rows path times penalty → plan_cost ≤ c → b ≡ eqb cost c →
        Tells (IsTrueBound (whole_task net rows penalty budget) plan_cost path c) b
    bound_told plan_cost cost c true is no_less e =
        record { cost = record { times = times; least = least; cost = sym (eqb-true cost c (sym e)) ∙ is }; no_less = no_less }
    bound_told plan_cost cost c false is no_less e = λ t.
        both_ways (eqb cost c) (sym e) (eq-eqb cost c (is ∙ sym (one_cost c t.cost)))

    pub other_cost : (plan_cost cost c : ℕ) → cost ≡ relaxed_cost_of net rows path times penalty → (cost ≡ c → ⊥) → IsTrueOpen (whole_task net rows penalty budget) plan_cost path c → ⊥
    other_cost plan_cost cost c is other t = other (is ∙ sym (there_cost t.choice c t.violated))

    pub open_told : (plan_cost cost c : ℕ) (b : Bool) → cost ≡ relaxed_cost_of net rows path times penalty → c < plan_cost → cost ≡ c → Tells (IsSomeViolated net rows path times) b →
        Tells (IsTrueOpen (whole_task net rows penalty budget) plan_cost path c) b
    open_told plan_cost cost c true is less same some =
        record { choice = some.choice; violated = record { times = times; least = least; cost = sym same ∙ is; violated = some.violated }; less = less }
    open_told plan_cost cost c false is less same none = λ t. none (record { choice = t.choice; violated = there_violated t.choice c t.violated })

    pub inner_dear : (rows_cost cost : ℕ) (choice : Choice) → Costs net rows penalty rows_cost → cost ≡ relaxed_cost_of net rows path times penalty → rows_cost ≤ cost →
        IsTrueInner (whole_task net rows penalty budget) path choice → ⊥
    inner_dear rows_cost cost choice costs is dear t =
        let a = one_own net rows penalty t.own_cost rows_cost t.of_rows costs in
        let b = there_cost choice t.cost t.violated in
        let cheaper = t.cheaper in
        omega (arith, a, b, cheaper, is, dear)

    pub inner_told : IsNetwork net → HasNoRelaxedCycle net rows path → (rows_cost cost : ℕ) (choice : Choice) (b : Bool) → Costs net rows penalty rows_cost → cost ≡ relaxed_cost_of net rows path times penalty →
        cost < rows_cost → IsTrue b ↔ IsViolated net rows path times choice → Tells (IsTrueInner (whole_task net rows penalty budget) path choice) b
    inner_told network none rows_cost cost choice true costs is cheap exactly =
        let v : IsViolated net rows path times choice = exactly.0 refl in
        record {
          no_cycle = none;
          allowed = (violated_is_open net network rows path times choice v).free;
          cost = relaxed_cost_of net rows path times penalty;
          violated = record { times = times; least = least; cost = refl; violated = v };
          own_cost = rows_cost;
          of_rows = costs;
          cheaper = omega (arith, is, cheap);
        }
    inner_told network none rows_cost cost choice false costs is cheap exactly = λ t.
        let e : IsTrue false = exactly.1 (there_violated choice t.cost t.violated) in cc

  pub next_open : IsNetwork net → (plan_cost : ℕ) (n : Node) → ((c : Choice) → n ≡ Inner c → IsOrdered c) → IsTrueNode (whole_task net rows penalty budget) plan_cost path n →
      IsNextOpen net rows path n
  next_open network plan_cost (Inner c) ordered t = (violated_is_open net network rows path t.violated.times c t.violated.violated, ordered c refl)
  next_open network plan_cost Cycle ordered t = tt
  next_open network plan_cost (Bound c) ordered t = tt
  next_open network plan_cost (Open c) ordered t = tt
  next_open network plan_cost Hole ordered t = absurd t
