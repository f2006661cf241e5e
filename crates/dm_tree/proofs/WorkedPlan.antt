-- The worked plan of the connection at one station is true, and the present choices are not shown optimal.
use Rattle.std.proofs.Common.{◌≡◌, ℕ, List, [], ◌∷◌, arith, refl, sym, ap, subst, inl, inr, lit<, lit≤}
use Rattle.std.proofs.lemmas.List.Elements.{All-nil, All-cons}
use Rattle.dm_rows.specs.declared.messages.Choice.{Choice}
use Rattle.dm_rows.specs.declared.messages.Choice.TheVariants.{Change}
use Rattle.dm_rows.specs.declared.messages.Decision.{Decision}
use Rattle.dm_rows.specs.declared.messages.Decision.TheVariants.{Keep, Drop, First}
use Rattle.dm_rows.specs.Active.{is_active}
use Rattle.dm_rows.specs.Cost.{Costs}
use Rattle.dm_rows.specs.Decide.{with_decisions}
use Rattle.dm_rows.specs.Relax.{is_relaxed_active}
use Rattle.dm_rows.specs.Examples.{event_id, activity_id, connection, delayed}
use Rattle.dm_rows.proofs.AsGraph.{active_enter_no_passed, relaxed_enter_no_passed}
use Rattle.dm_tree.specs.declared.forms.Node.{Node}
use Rattle.dm_tree.specs.declared.forms.Node.TheVariants.{Inner, Cycle, Bound, Open}
use Rattle.dm_tree.specs.Trees.{Shape, leaf, branch, preorder, StandsAt}
use Rattle.dm_tree.specs.Relaxed.{IsRelaxedLeast, relaxed_cost_of, RelaxedCosts}
use Rattle.dm_tree.specs.Plans.{DiffersFrom, CostsWith, IsTrueInner, IsTrueBound, IsLeastOfLeaves}
use Rattle.dm_tree.specs.Worked.{delayed_task, WorkedPlanIsTrue, PresentChoicesAreNotShown}
use Rattle.dm_tree.proofs.Shown.{shown_least, shown_acyclic, one_least}

abbrev both : List Decision
both = Drop (activity_id 5) ∷ First (event_id 5) (event_id 3) ∷ []

abbrev free_times : List ℕ
free_times = 160 ∷ 250 ∷ 260 ∷ 340 ∷ 230 ∷ 330 ∷ []

abbrev kept_times : List ℕ
kept_times = 160 ∷ 250 ∷ 260 ∷ 340 ∷ 270 ∷ 365 ∷ []

abbrev pushes : List ℕ
pushes = 0 ∷ 0 ∷ 1 ∷ 2 ∷ 4 ∷ 3 ∷ []

of_rows : Costs connection delayed 10 1075000
of_rows =
    record {
      times = kept_times;
      least = shown_least connection delayed (is_active connection delayed) kept_times pushes (active_enter_no_passed connection delayed)
          refl refl refl refl refl;
      cost = refl;
    }

with_both : CostsWith (delayed_task 100) both 940000
with_both =
    record {
      no_cycle = shown_acyclic connection (is_active connection (with_decisions connection delayed both)) (0 ∷ 1 ∷ 4 ∷ 5 ∷ 2 ∷ 3 ∷ []) refl;
      cost = record {
        times = free_times;
        least = shown_least connection (with_decisions connection delayed both)
            (is_active connection (with_decisions connection delayed both)) free_times pushes
            (active_enter_no_passed connection (with_decisions connection delayed both)) refl refl refl refl refl;
        cost = refl;
      };
    }

root_least : IsRelaxedLeast connection delayed [] free_times
root_least =
    shown_least connection (with_decisions connection delayed []) (is_relaxed_active connection delayed []) free_times pushes
    (relaxed_enter_no_passed connection delayed []) refl refl refl refl refl

keep_costs : RelaxedCosts connection delayed (Keep (activity_id 5) ∷ []) 10 1075000
keep_costs =
    let path : List Decision = Keep (activity_id 5) ∷ [] in
    record {
      times = kept_times;
      least = shown_least connection (with_decisions connection delayed path) (is_relaxed_active connection delayed path) kept_times pushes
          (relaxed_enter_no_passed connection delayed path) refl refl refl refl refl;
      cost = refl;
    }

drop_costs : RelaxedCosts connection delayed (Drop (activity_id 5) ∷ []) 10 940000
drop_costs =
    let path : List Decision = Drop (activity_id 5) ∷ [] in
    record {
      times = free_times;
      least = shown_least connection (with_decisions connection delayed path) (is_relaxed_active connection delayed path) free_times pushes
          (relaxed_enter_no_passed connection delayed path) refl refl refl refl refl;
      cost = refl;
    }

abbrev change : Choice
change = Change (activity_id 5)

abbrev tree : Shape
tree = branch change (leaf (Bound 1075000)) (leaf (Bound 940000))

true_root : IsTrueInner (delayed_task 100) [] change
true_root =
    record {
      no_cycle = shown_acyclic connection (is_relaxed_active connection delayed []) (0 ∷ 1 ∷ 2 ∷ 3 ∷ 4 ∷ 5 ∷ []) refl;
      allowed = (0, lit< tt, refl);
      cost = 900000;
      violated = record { times = free_times; least = root_least; cost = refl; violated = (0, lit< tt, refl) };
      own_cost = 1075000;
      of_rows = of_rows;
      cheaper = lit< tt;
    }

inner_is_root : (path : List Decision) (choice : Choice) → StandsAt tree path (Inner choice) → IsTrueInner (delayed_task 100) path choice
inner_is_root [] choice s = let same : change ≡ choice = cc in subst (IsTrueInner (delayed_task 100) []) same true_root
inner_is_root (d ∷ []) choice (inl s) = let e : Bound 1075000 ≡ Inner choice = s.1 in cc
inner_is_root (d ∷ []) choice (inr s) = let e : Bound 940000 ≡ Inner choice = s.1 in cc
inner_is_root (d ∷ e ∷ path) choice (inl s) = absurd s.1
inner_is_root (d ∷ e ∷ path) choice (inr s) = absurd s.1

true_bound : (path : List Decision) (c : ℕ) → StandsAt tree path (Bound c) → IsTrueBound (delayed_task 100) 940000 path c
true_bound [] c s = let e : Inner change ≡ Bound c = s in cc
true_bound (d ∷ []) c (inl s) =
    let e : Bound 1075000 ≡ Bound c = s.1 in
    let same : 1075000 ≡ c = cc in
    let way : Keep (activity_id 5) ≡ d = sym s.0 in
    subst (λ x. IsTrueBound (delayed_task 100) 940000 (x ∷ []) c) way
    (subst (IsTrueBound (delayed_task 100) 940000 (Keep (activity_id 5) ∷ [])) same (record { cost = keep_costs; no_less = lit≤ tt }))
true_bound (d ∷ []) c (inr s) =
    let e : Bound 940000 ≡ Bound c = s.1 in
    let same : 940000 ≡ c = cc in
    let way : Drop (activity_id 5) ≡ d = sym s.0 in
    subst (λ x. IsTrueBound (delayed_task 100) 940000 (x ∷ []) c) way
    (subst (IsTrueBound (delayed_task 100) 940000 (Drop (activity_id 5) ∷ [])) same (record { cost = drop_costs; no_less = lit≤ tt }))
true_bound (d ∷ e ∷ path) c (inl s) = absurd s.1
true_bound (d ∷ e ∷ path) c (inr s) = absurd s.1

no_other : (n : Node) → ((c : Choice) → Inner c ≡ n → ⊥) → ((c : ℕ) → Bound c ≡ n → ⊥) → (path : List Decision) → StandsAt tree path n → ⊥
no_other n inner bound [] s = inner change s
no_other n inner bound (d ∷ []) (inl s) = bound 1075000 s.1
no_other n inner bound (d ∷ []) (inr s) = bound 940000 s.1
no_other n inner bound (d ∷ e ∷ path) (inl s) = s.1
no_other n inner bound (d ∷ e ∷ path) (inr s) = s.1

none_open : (path : List Decision) (c : ℕ) → StandsAt tree path (Open c) → ⊥
none_open path c s = no_other (Open c) (λ x e. cc) (λ x e. cc) path s

least_leaf : IsLeastOfLeaves tree 940000
least_leaf =
    record {
      path = Drop (activity_id 5) ∷ [];
      reached = inl (inr (refl, refl));
      below_bounds = λ p c s. (true_bound p c s).no_less;
      below_opens = λ p c s. absurd (none_open p c s);
    }

pub worked_plan_is_true : WorkedPlanIsTrue
worked_plan_is_true =
    record {
      choices = inl (refl, inl (refl, refl));
      differ =
          All-cons (DiffersFrom (delayed_task 100)) (Drop (activity_id 5)) (First (event_id 5) (event_id 3) ∷ []) refl
          (All-cons (DiffersFrom (delayed_task 100)) (First (event_id 5) (event_id 3)) [] refl (All-nil (DiffersFrom (delayed_task 100))));
      cost = with_both;
      shape = tree;
      in_preorder = refl;
      proper = (tt, tt, tt);
      whole = (tt, tt);
      inners = inner_is_root;
      cycles = λ p s. absurd (no_other Cycle (λ x e. cc) (λ x e. cc) p s);
      bounds = true_bound;
      opens = λ p c s. absurd (none_open p c s);
      bound = least_leaf;
      mark = (λ e. none_open, λ none. refl);
      size = lit≤ tt;
      used = λ e. cc;
    }

lone_leaf : (t : Shape) (n : Node) → preorder t ≡ n ∷ [] → StandsAt t [] n
lone_leaf (leaf m) n e = let same : m ≡ n = cc in same
lone_leaf (branch c a b) n e = let same : Inner c ≡ n = cc in same

costs_differ : (n : ℕ) → 1075000 ≡ n → n ≡ 900000 → ⊥
costs_differ n a b = omega arith

pub present_choices_are_not_shown : PresentChoicesAreNotShown
present_choices_are_not_shown budget p =
    let b = p.bounds [] 1075000 (lone_leaf p.shape (Bound 1075000) p.in_preorder) in
    let same : b.cost.times ≡ free_times = one_least connection delayed (is_relaxed_active connection delayed []) b.cost.times free_times b.cost.least root_least in
    costs_differ (relaxed_cost_of connection delayed [] b.cost.times 10) b.cost.cost
    (ap (λ x. relaxed_cost_of connection delayed [] x 10) same)
