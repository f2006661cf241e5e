-- The choices of a rule are one list, close no cycle, and cost no less than the bound of a true plan.
use Rattle.std.proofs.Common.{◌≡◌, ℕ, ◌≤◌, Bool, true, List, [], ◌∷◌, ◌++◌, length, map, filter, get_or, cond, refl, sym, ap, subst, ◌∙◌, inl, inr}
use Rattle.std.specs.Prelude.{not}
use Rattle.std.specs.List.{range_with_len}
use Rattle.std.proofs.lemmas.Bool.{cases_Bool, cond-true, cond-false, and_parts}
use Rattle.dm_network.specs.Net.{Net}
use Rattle.dm_network.specs.Start.{IsNetwork}
use Rattle.dm_rows.specs.declared.messages.Choice.{Choice}
use Rattle.dm_rows.specs.declared.messages.Decision.{Decision}
use Rattle.dm_rows.specs.Active.{HasNoCycle}
use Rattle.dm_rows.specs.Cost.{Costs}
use Rattle.dm_rows.specs.Decide.{is_free_change, change_choice, free_choices_of, free_pairs_of, choice_of, with_decisions}
use Rattle.dm_rows.specs.Rows.{RowsValue, IsSized, kept_at}
use Rattle.dm_paths.specs.Decisions.{change_decision}
use Rattle.dm_paths.proofs.Apart.{map_through}
use Rattle.dm_paths.proofs.Naming.{change_decides}
use Rattle.dm_tree.specs.Plans.{Task, whole_task, AreSomeOf}
use Rattle.dm_parts.specs.declared.kinds.AnyPlan.{AnyPlan}
use Rattle.dm_parts.specs.declared.kinds.AnyPlan.TheVariants.{Whole, ByParts}
use Rattle.dm_waitrule.specs.Kinds.{bound_of, IsTrueAny}
use Rattle.dm_part_bounds.proofs.Low.{bounds_by_parts_hold}
use Rattle.dm_traverse.specs.Laws.{IsTask, CostsWithin}
use Rattle.dm_traverse.proofs.Optimal.{chosen, bound_is_low, whole_is_task}
use Rattle.dm_waitrule.specs.declared.rule.WaitRule.{WaitRule}
use Rattle.dm_waitrule.specs.Rules.{limit_of, with_dropped, Follows, is_decided_otherwise, differences_to, AreRuled, AreRuleChoices}
use Rattle.dm_waitrule.specs.declared.comparing.Comparison.{Comparison}
use Rattle.dm_waitrule.specs.Compared.{Compares}
use Rattle.dm_waitrule.specs.Laws.{RuleChoicesAreBounded}
use Rattle.dm_waitrule.proofs.Ruled.{both_change, dropping, following, open_ruled, one_ruled}
use Rattle.dm_waitrule.proofs.Differing.{with_differences}
use Rattle.dm_waitrule.proofs.Single.{one_order}

none_of : (choices : List Choice) → AreSomeOf choices []
none_of [] = refl
none_of (a ∷ choices) = tt

passed_over : (a : Choice) (choices picked : List Choice) → AreSomeOf choices picked → AreSomeOf (a ∷ choices) picked
passed_over a choices [] some = tt
passed_over a choices (c ∷ picked) some = inr some

-- what passes the narrower of two tests is some of what passes the wider one
module _ (item : ℕ → Choice) (wide narrow : ℕ → Bool) (wider : (a : ℕ) → narrow a ≡ true → wide a ≡ true) (rest : List Choice) where
  some_pass : (places : List ℕ) → AreSomeOf (map item (filter wide places) ++ rest) (map item (filter narrow places))
  some_pass [] = none_of rest
  some_pass (a ∷ places) =
      let all : List ℕ = filter wide places in
      let some : List ℕ = filter narrow places in
      elim (cases_Bool (narrow a)) [
        | inl is ↦
            subst (λ ks. AreSomeOf (map item ks ++ rest) (map item (cond (narrow a) (a ∷ some) some))) (sym (cond-true (wide a) (a ∷ all) all (wider a is)))
            (subst (λ ks. AreSomeOf (item a ∷ (map item all ++ rest)) (map item ks)) (sym (cond-true (narrow a) (a ∷ some) some is)) (inl (refl, some_pass places)))
        | inr isnt ↦
            subst (λ ks. AreSomeOf (map item (cond (wide a) (a ∷ all) all) ++ rest) (map item ks)) (sym (cond-false (narrow a) (a ∷ some) some isnt))
            (elim (cases_Bool (wide a)) [
              | inl too ↦
                  subst (λ ks. AreSomeOf (map item ks ++ rest) (map item some)) (sym (cond-true (wide a) (a ∷ all) all too))
                  (passed_over (item a) (map item all ++ rest) (map item some) (some_pass places))
              | inr nor ↦
                  subst (λ ks. AreSomeOf (map item ks ++ rest) (map item some)) (sym (cond-false (wide a) (a ∷ all) all nor)) (some_pass places)
            ])
      ]

-- no choices allowed cost less than the bound of a true plan of either kind
low : (task : Task) (plan : AnyPlan) (choices : List Decision) (c : ℕ) → IsTask task → IsTrueAny task plan → CostsWithin task choices c → bound_of plan ≤ c
low task (Whole plan) choices c is_task is_true costs = bound_is_low task is_task plan choices c is_true costs
low task (ByParts plan) choices c is_task is_true costs = bounds_by_parts_hold.plan task plan choices c is_task is_true costs

module _ (net : Net) (network : IsNetwork net) (rows : RowsValue) where
  some_free : (ruled : RowsValue) → AreSomeOf (free_choices_of net rows) (map choice_of (differences_to net rows ruled))
  some_free ruled =
      let places : List ℕ = filter (is_decided_otherwise net rows ruled) (range_with_len 0 (length net.activities)) in
      let decided : map choice_of (differences_to net rows ruled) ≡ map (change_choice net) places =
      map_through (λ a. change_decision net a (kept_at ruled a)) choice_of (change_choice net) places
      (λ k d lt. change_decides net network (get_or places k d) (kept_at ruled (get_or places k d))) in
      subst (AreSomeOf (free_choices_of net rows)) (sym decided)
      (some_pass (change_choice net) (is_free_change net rows) (is_decided_otherwise net rows ruled) (λ a h. (and_parts (is_free_change net rows a) (cond (kept_at rows a) (not (kept_at ruled a)) (kept_at ruled a)) h).0)
      (free_pairs_of net rows) (range_with_len 0 (length net.activities)))

  module _ (sized : IsSized net rows) (rule : WaitRule) (ruled : RowsValue) (are : AreRuled net rows rule ruled) where
    pub rows_with : with_decisions net rows (differences_to net rows ruled) ≡ ruled
    rows_with =
        with_differences net network rows ruled sized are.order are.in_order
        (both_change rows (with_dropped rows are.order) ruled are.order (dropping rows are.order)
        (following net (limit_of rule) (with_dropped rows are.order) ruled are.order are.follows))

  module _ (sized : IsSized net rows) (none : HasNoCycle net rows) (rule : WaitRule) (choices : List Decision)
      (is : AreRuleChoices net rows rule choices) where
    pub no_cycle_with : HasNoCycle net (with_decisions net rows choices)
    no_cycle_with =
        subst (HasNoCycle net) (sym (ap (with_decisions net rows) is.differ ∙ rows_with sized rule is.ruled is.are_ruled))
        (open_ruled net (limit_of rule) rows is.ruled is.are_ruled.order none is.are_ruled.follows)

    pub no_less : (penalty budget c : ℕ) (plan : AnyPlan) → Costs net (with_decisions net rows choices) penalty c →
        IsTrueAny (whole_task net rows penalty budget) plan → bound_of plan ≤ c
    no_less penalty budget c plan costs is_true =
        let task : Task = whole_task net rows penalty budget in
        let is_task : IsTask task = whole_is_task net rows penalty budget network sized in
        let some : AreSomeOf task.allowed (map choice_of choices) =
        subst (λ ds. AreSomeOf (free_choices_of net rows) (map choice_of ds)) (sym is.differ) (some_free is.ruled) in
        let list = chosen task is_task choices some in
        low task plan choices c is_task is_true
        (record { decides = list.0; allowed = list.1; cost = record { no_cycle = no_cycle_with; cost = costs } })

-- ---- a comparison

pub are_choices : (net : Net) (rows : RowsValue) (rule : WaitRule) (ruled other : RowsValue) → AreRuled net rows rule ruled → other ≡ ruled →
    (choices : List Decision) → choices ≡ differences_to net rows other → AreRuleChoices net rows rule choices
are_choices net rows rule ruled other are same choices differ =
    record { ruled = ruled; are_ruled = are; differ = differ ∙ ap (differences_to net rows) same }

pub compares : (net : Net) → IsNetwork net → (rows : RowsValue) → IsSized net rows → HasNoCycle net rows → (rule : WaitRule) (penalty budget : ℕ)
    (ruled : RowsValue) → AreRuled net rows rule ruled → (compared : Comparison) → compared.choices ≡ differences_to net rows ruled →
    Costs net ruled penalty compared.cost → IsTrueAny (whole_task net rows penalty budget) compared.plan → Compares net rows penalty budget rule compared
compares net network rows sized none rule penalty budget ruled are compared differ costs plan =
    let is : AreRuleChoices net rows rule compared.choices = are_choices net rows rule ruled ruled are refl compared.choices differ in
    let set : with_decisions net rows compared.choices ≡ ruled = ap (with_decisions net rows) differ ∙ rows_with net network rows sized rule ruled are in
    let costs_so : Costs net (with_decisions net rows compared.choices) penalty compared.cost =
    subst (λ (r : RowsValue). Costs net r penalty compared.cost) (sym set) costs in
    record {
      choices = is;
      cost = costs_so;
      plan = plan;
      no_less = no_less net network rows sized none rule compared.choices is penalty budget compared.cost compared.plan costs_so plan;
    }

-- ---- one list

one_ruling : (net : Net) (rows : RowsValue) (rule : WaitRule) (ruled other : RowsValue) → AreRuled net rows rule ruled → AreRuled net rows rule other →
    ruled ≡ other
one_ruling net rows rule ruled other is too =
    let order : is.order ≡ too.order = one_order net rows is.order too.order is.in_order too.in_order in
    one_ruled net (limit_of rule) (with_dropped rows is.order) ruled other is.order is.follows
    (subst (λ o. Follows net (limit_of rule) o (with_dropped rows o) other) (sym order) too.follows)

one_list : (net : Net) (rows : RowsValue) (rule : WaitRule) (choices others : List Decision) → AreRuleChoices net rows rule choices →
    AreRuleChoices net rows rule others → choices ≡ others
one_list net rows rule choices others is too =
    is.differ ∙ ap (differences_to net rows) (one_ruling net rows rule is.ruled too.ruled is.are_ruled too.are_ruled) ∙ sym too.differ

pub rule_choices_are_bounded : RuleChoicesAreBounded
rule_choices_are_bounded =
    record {
      one = λ net rows rule choices others network is too. one_list net rows rule choices others is too;
      no_cycle = λ net rows rule choices network sized none is. no_cycle_with net network rows sized none rule choices is;
      bound = λ net rows rule choices penalty budget c plan network sized none is costs is_true.
          no_less net network rows sized none rule choices is penalty budget c plan costs is_true;
    }
