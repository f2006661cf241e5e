-- The worked plan by parts is true, and one that counts a part twice is not.
use Rattle.std.proofs.Common.{◌≡◌, ℕ, ◌≤◌, List, [], ◌∷◌, refl, sym, subst, inl, inr, arith, lit<, lit≤}
use Rattle.std.proofs.lemmas.List.Elements.{All-nil, All-cons}
use Rattle.dm_network.specs.Net.{Net}
use Rattle.dm_rows.specs.declared.messages.Choice.{Choice}
use Rattle.dm_rows.specs.declared.messages.Choice.TheVariants.{Change}
use Rattle.dm_rows.specs.declared.messages.Decision.{Decision}
use Rattle.dm_rows.specs.declared.messages.Decision.TheVariants.{Keep, Drop}
use Rattle.dm_rows.specs.Decide.{with_decisions}
use Rattle.dm_rows.specs.Relax.{is_relaxed_active}
use Rattle.dm_rows.specs.Examples.{event_id, activity_id, connection, delayed}
use Rattle.dm_rows.proofs.AsGraph.{relaxed_enter_no_passed}
use Rattle.dm_tree.specs.declared.forms.Node.TheVariants.{Inner, Cycle, Bound}
use Rattle.dm_tree.specs.Trees.{Shape, leaf, branch, StandsAt}
use Rattle.dm_tree.specs.Relaxed.{RelaxedCosts}
use Rattle.dm_tree.specs.Worked.{delayed_task}
use Rattle.dm_tree.proofs.Shown.{shown_least, shown_acyclic}
use Rattle.dm_tree.proofs.WorkedPlan.{worked_plan_is_true}
use Rattle.dm_parts.specs.Shares.{within, beside, NamesArrival, NamesChange, IsShare}
use Rattle.dm_parts.specs.Parts.{IsTrueBranch, IsTruePart}
use Rattle.dm_parts.proofs.Adding.{alone_is_apart}
use Rattle.dm_parts.specs.Worked.{second_train, second_part, WorkedPlanByPartsIsTrue, CountsNothingTwice}

abbrev inside : Net
inside = within connection second_train

abbrev outside : Net
outside = beside connection (second_train ∷ [])

abbrev free_times : List ℕ
free_times = 160 ∷ 250 ∷ 260 ∷ 340 ∷ 230 ∷ 330 ∷ []

abbrev kept_times : List ℕ
kept_times = 160 ∷ 250 ∷ 260 ∷ 340 ∷ 270 ∷ 365 ∷ []

-- which activity holds each event where it is
abbrev pushes : List ℕ
pushes = 0 ∷ 0 ∷ 1 ∷ 2 ∷ 4 ∷ 3 ∷ []

keep_costs : RelaxedCosts inside delayed (Keep (activity_id 5) ∷ []) 10 175000
keep_costs =
    let path : List Decision = Keep (activity_id 5) ∷ [] in
    record {
      times = kept_times;
      least = shown_least inside (with_decisions inside delayed path) (is_relaxed_active inside delayed path) kept_times pushes
          (relaxed_enter_no_passed inside delayed path) refl refl refl refl refl;
      cost = refl;
    }

drop_costs : RelaxedCosts inside delayed (Drop (activity_id 5) ∷ []) 10 40000
drop_costs =
    let path : List Decision = Drop (activity_id 5) ∷ [] in
    record {
      times = free_times;
      least = shown_least inside (with_decisions inside delayed path) (is_relaxed_active inside delayed path) free_times pushes
          (relaxed_enter_no_passed inside delayed path) refl refl refl refl refl;
      cost = refl;
    }

rest_costs : RelaxedCosts outside delayed [] 10 900000
rest_costs =
    record {
      times = free_times;
      least = shown_least outside (with_decisions outside delayed []) (is_relaxed_active outside delayed []) free_times pushes
          (relaxed_enter_no_passed outside delayed []) refl refl refl refl refl;
      cost = refl;
    }

is_share : IsShare connection second_train
is_share =
    record {
      arrivals_ascend = λ k lt. absurd (omega arith);
      changes_ascend = λ k lt. absurd (omega arith);
      are_arrivals = All-cons (NamesArrival connection) (event_id 6) [] (record { place = 5; found = refl; arrives = refl }) (All-nil (NamesArrival connection));
      are_changes = All-cons (NamesChange connection) (activity_id 5) [] (record { place = 4; found = refl; changes = refl }) (All-nil (NamesChange connection));
    }

abbrev change : Choice
change = Change (activity_id 5)

abbrev tree : Shape
tree = branch change (leaf (Bound 175000)) (leaf (Bound 40000))

root_branches : IsTrueBranch (delayed_task 100) [] change
root_branches =
    record {
      no_cycle = shown_acyclic connection (is_relaxed_active connection delayed []) (0 ∷ 1 ∷ 2 ∷ 3 ∷ 4 ∷ 5 ∷ []) refl;
      allowed = (0, lit< tt, refl);
      undecided = refl;
    }

branch_is_root : (path : List Decision) (choice : Choice) → StandsAt tree path (Inner choice) → IsTrueBranch (delayed_task 100) path choice
branch_is_root [] choice s = let same : change ≡ choice = cc in subst (IsTrueBranch (delayed_task 100) []) same root_branches
branch_is_root (d ∷ []) choice (inl s) = let e : Bound 175000 ≡ Inner choice = s.1 in cc
branch_is_root (d ∷ []) choice (inr s) = let e : Bound 40000 ≡ Inner choice = s.1 in cc
branch_is_root (d ∷ e ∷ path) choice (inl s) = absurd s.1
branch_is_root (d ∷ e ∷ path) choice (inr s) = absurd s.1

-- what a leaf carries is its relaxed cost, and no less than the bound
abbrev Carries : List Decision → ℕ → Type 0
Carries path c = RelaxedCosts inside delayed path 10 c × (40000 ≤ c)

carried : (path : List Decision) (c : ℕ) → StandsAt tree path (Bound c) → Carries path c
carried [] c s = let e : Inner change ≡ Bound c = s in cc
carried (d ∷ []) c (inl s) =
    let e : Bound 175000 ≡ Bound c = s.1 in
    let same : 175000 ≡ c = cc in
    let way : Keep (activity_id 5) ≡ d = sym s.0 in
    subst (λ x. Carries (x ∷ []) c) way (subst (Carries (Keep (activity_id 5) ∷ [])) same (keep_costs, lit≤ tt))
carried (d ∷ []) c (inr s) =
    let e : Bound 40000 ≡ Bound c = s.1 in
    let same : 40000 ≡ c = cc in
    let way : Drop (activity_id 5) ≡ d = sym s.0 in
    subst (λ x. Carries (x ∷ []) c) way (subst (Carries (Drop (activity_id 5) ∷ [])) same (drop_costs, lit≤ tt))
carried (d ∷ e ∷ path) c (inl s) = absurd s.1
carried (d ∷ e ∷ path) c (inr s) = absurd s.1

no_cycle_leaf : (path : List Decision) → StandsAt tree path Cycle → ⊥
no_cycle_leaf [] s = let e : Inner change ≡ Cycle = s in cc
no_cycle_leaf (d ∷ []) (inl s) = let e : Bound 175000 ≡ Cycle = s.1 in cc
no_cycle_leaf (d ∷ []) (inr s) = let e : Bound 40000 ≡ Cycle = s.1 in cc
no_cycle_leaf (d ∷ e ∷ path) (inl s) = s.1
no_cycle_leaf (d ∷ e ∷ path) (inr s) = s.1

true_part : IsTruePart (delayed_task 100) second_part
true_part =
    record {
      share = is_share;
      shape = tree;
      in_preorder = refl;
      proper = (tt, tt, tt);
      branches = branch_is_root;
      cycles = λ p s. absurd (no_cycle_leaf p s);
      leaves = λ p c s. (carried p c s).0;
      bound = record { path = Drop (activity_id 5) ∷ []; reached = inr (refl, refl); below = λ p c s. (carried p c s).1 };
    }

pub worked_plan_by_parts_is_true : WorkedPlanByPartsIsTrue
worked_plan_by_parts_is_true =
    record {
      choices = worked_plan_is_true.choices;
      differ = worked_plan_is_true.differ;
      cost = worked_plan_is_true.cost;
      parts = All-cons (IsTruePart (delayed_task 100)) second_part [] true_part (All-nil (IsTruePart (delayed_task 100)));
      apart = alone_is_apart second_train;
      rest = rest_costs;
      bound = refl;
      mark = (λ e. refl, λ e. refl);
      size = lit≤ tt;
    }

pub counts_nothing_twice : CountsNothingTwice
counts_nothing_twice budget p =
    let same : 0 ≡ 1 = p.apart.arrivals 0 1 second_train second_train (event_id 6) refl refl (0, lit< tt, refl) (0, lit< tt, refl) in
    omega (arith, same)
