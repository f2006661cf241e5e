-- What a true plan shows of its choices, its bound and its mark.
use Rattle.std.proofs.Common.{◌≡◌, ℕ, ◌+◌, ◌^◌, ◌≤◌, Bool, true, List, [], ◌∷◌, ◌++◌, length, map, refl, sym, ap, subst, ◌∙◌, ◌⊎◌, inl, inr, arith}
use Rattle.std.specs.Prelude.{Contains, All, not, suc}
use Rattle.std.specs.List.{list_any}
use Rattle.std.proofs.lemmas.Bool.{both_ways, or_left}
use Rattle.std.proofs.lemmas.List.Folds.{list_any-append}
use Rattle.std.proofs.lemmas.List.Elements.{All-contains, Contains-append_right}
use Rattle.std.proofs.lemmas.List.Sums.{count_by-le-length}
use Rattle.dm_network.specs.Net.{Net}
use Rattle.dm_network.specs.Start.{IsNetwork}
use Rattle.dm_rows.specs.declared.messages.Choice.{Choice}
use Rattle.dm_rows.specs.declared.messages.Decision.{Decision}
use Rattle.dm_rows.specs.Rows.{RowsValue, IsSized}
use Rattle.dm_rows.specs.Decide.{free_choices_of, choice_of, with_decisions, IsChoiceList}
use Rattle.dm_rows.specs.Relax.{is_decided, is_same_choice}
use Rattle.dm_tree.specs.declared.forms.Mark.{Mark}
use Rattle.dm_tree.specs.declared.forms.Mark.TheVariants.{Optimal, Open as OpenMark}
use Rattle.dm_tree.specs.declared.forms.Node.{Node}
use Rattle.dm_tree.specs.declared.forms.Node.TheVariants.{Inner, Cycle, Bound, Open, Hole}
use Rattle.dm_tree.specs.declared.plans.Plan.{Plan}
use Rattle.dm_tree.specs.Trees.{StandsAt, preorder}
use Rattle.dm_tree.specs.Plans.{Task, whole_task, AreSomeOf, HasNoOpen, IsTruePlan, IsOptimal}
use Rattle.dm_paths.proofs.Naming.{names}
use Rattle.dm_paths.proofs.Setting.{HasDecision, differs_in_none, differs_with, there_with, in_front, locks_of}
use Rattle.dm_paths.proofs.Apart.{Apart, free_are_apart, apart_once, choice_list_from, in_map}
use Rattle.dm_relax.proofs.BoundLaw.{all_from}
use Rattle.dm_traverse.specs.Laws.{IsTask, CostsWithin, OptimalPlansAreOptimal}
use Rattle.dm_traverse.proofs.Leaves.{IsUndecided, violated_is_undecided, Fact, apart_from_once, has_low_leaf}
use Rattle.dm_traverse.proofs.Sizes.{doubled_is, fewer_nodes}

-- some of a list are among it, and all different where it has no element twice
pub some_among : (allowed chosen : List Choice) → AreSomeOf allowed chosen → (c : Choice) → Contains chosen c → Contains allowed c
some_among [] chosen some c h = subst (λ cs. Contains cs c) some h
some_among (a ∷ allowed) [] some c h = absurd (omega (arith, h.1))
some_among (a ∷ allowed) (b ∷ chosen) (inl both) c h =
    elim (in_front b c chosen h) [
      | inl same ↦ (0, omega arith, both.0 ∙ same)
      | inr behind ↦ Contains-append_right (a ∷ []) allowed c (some_among allowed chosen both.1 c behind)
    ]
some_among (a ∷ allowed) (b ∷ chosen) (inr later) c h =
    Contains-append_right (a ∷ []) allowed c (some_among allowed (b ∷ chosen) later c h)

pub some_apart : (allowed chosen : List Choice) → AreSomeOf allowed chosen → Apart allowed → Apart chosen
some_apart [] chosen some apart = subst Apart (sym some) tt
some_apart (a ∷ allowed) [] some apart = tt
some_apart (a ∷ allowed) (b ∷ chosen) (inl both) apart = (
  λ h. apart.0 (some_among allowed chosen both.1 a (subst (Contains chosen) (sym both.0) h)),
  some_apart allowed chosen both.1 apart.1,
)
some_apart (a ∷ allowed) (b ∷ chosen) (inr later) apart = some_apart allowed (b ∷ chosen) later apart.1

pub decided_longer : (path more : List Decision) (c : Choice) → is_decided path c ≡ true → is_decided (path ++ more) c ≡ true
decided_longer path more c h =
    let test : Decision → Bool = λ x. is_same_choice (choice_of x) c in
    list_any-append test path more ∙ or_left (list_any test path) (list_any test more) h

module _ (task : Task) (is : IsTask task) where
  -- an undecided choice behind the base is allowed
  pub allowed_there : (path : List Decision) (c : Choice) → IsUndecided task.net task.rows (task.base ++ path) c → Contains task.allowed c
  allowed_there path c h =
      elim (is.covers c h.free) [
        | inl decided ↦ absurd (both_ways (is_decided (task.base ++ path) c) h.undecided (decided_longer task.base path c decided))
        | inr among ↦ among
      ]

  -- some of the choices allowed, in order, are a choice list within them
  pub chosen : (ds : List Decision) → AreSomeOf task.allowed (map choice_of ds) →
      IsChoiceList task.net task.rows ds × All (λ d. Contains task.allowed (choice_of d)) ds
  chosen ds some =
      let among : (d : Decision) → Contains ds d → Contains task.allowed (choice_of d) =
      λ d h. some_among task.allowed (map choice_of ds) some (choice_of d) (in_map choice_of ds d h) in (
        choice_list_from task.net task.rows ds
            (some_apart task.allowed (map choice_of ds) some (apart_from_once task.allowed is.once))
            (λ d h. All-contains (Contains (free_choices_of task.net task.rows)) task.allowed (choice_of d) is.free (among d h)),
        all_from (λ d. Contains task.allowed (choice_of d)) ds among,
      )

  -- what a true plan says of the nodes of its tree
  fact_of : (plan : Plan) (true_plan : IsTruePlan task plan) (q : List Decision) (n : Node) → StandsAt true_plan.shape q n → Fact task (task.base ++ q) n
  fact_of plan p q (Inner c) h =
      let inner = p.inners q c h in
      (violated_is_undecided task.net task.rows (task.base ++ q) inner.violated.times c inner.violated.violated, inner.allowed)
  fact_of plan p q Cycle h = let c = p.cycles q h in (c.cycle, c.is_cycle)
  fact_of plan p q (Bound k) h = (p.bounds q k h).cost
  fact_of plan p q (Open k) h =
      let open_leaf = p.opens q k h in
      let v = open_leaf.violated in
      let undecided = violated_is_undecided task.net task.rows (task.base ++ q) v.times open_leaf.choice v.violated in (
        record { times = v.times; least = v.least; cost = v.cost },
        (open_leaf.choice, undecided, allowed_there q open_leaf.choice undecided),
      )
  fact_of plan p q Hole h = tt

  -- rows with choices within those allowed still have the base
  pub has_base : (ds : List Decision) → IsChoiceList task.net task.rows ds → All (λ d. Contains task.allowed (choice_of d)) ds →
      (d : Decision) → Contains task.base d → HasDecision task.net (with_decisions task.net task.rows ds) d
  has_base ds list within d h =
      there_with task.net is.network task.rows is.sized ds task.rows d (differs_in_none task.rows)
      (names task.net task.rows d (All-contains (λ e. Contains (free_choices_of task.net task.rows) (choice_of e)) task.base d is.base.free h)) list.free
      (λ e among same. absurd (is.apart d h (subst (Contains task.allowed) same (All-contains (λ x. Contains task.allowed (choice_of x)) ds e within among))))
      (inl (All-contains (λ e. HasDecision task.net task.rows e) task.base d is.as_the_rows h))

  pub bound_is_low : (plan : Plan) (ds : List Decision) (c : ℕ) → IsTruePlan task plan → CostsWithin task ds c → plan.bound ≤ c
  bound_is_low plan ds c p costs =
      let r : RowsValue = with_decisions task.net task.rows ds in
      let low = has_low_leaf task is.network is.sized r (differs_with task.net task.rows task.rows ds (differs_in_none task.rows))
      (locks_of task.net is.network task.rows is.sized ds costs.decides.free) costs.cost.no_cycle c costs.cost.cost
      p.shape task.base p.proper p.whole (fact_of plan p) is.base (has_base ds costs.decides costs.allowed) in
      let le = low.low in
      elim low.stands [
        | inl s ↦ let below = p.bound.below_bounds low.path low.cost s in omega arith
        | inr s ↦ let below = p.bound.below_opens low.path low.cost s in omega arith
      ]

  pub optimal_is : (plan : Plan) → IsTruePlan task plan → plan.mark ≡ Optimal → IsOptimal task plan.choices plan.cost × (plan.bound ≡ plan.cost)
  optimal_is plan p marked =
      let none : HasNoOpen p.shape = p.mark.0 marked in
      let list = chosen plan.choices p.choices in
      let high : plan.cost ≤ plan.bound =
      elim p.bound.reached [
        | inl s ↦ (p.bounds p.bound.path plan.bound s).no_less
        | inr s ↦ absurd (none p.bound.path plan.bound s)
      ] in
      let low : plan.bound ≤ plan.cost = bound_is_low plan plan.choices plan.cost p (record { decides = list.0; allowed = list.1; cost = p.cost }) in (
        record {
          decides = list.0;
          allowed = list.1;
          cost = p.cost;
          least = λ others other decides allowed costs.
              let h = bound_is_low plan others other p (record { decides = decides; allowed = allowed; cost = costs }) in
              omega arith;
        },
        omega arith,
      )

  mark_cases : (m : Mark) → (m ≡ Optimal) ⊎ (m ≡ OpenMark)
  mark_cases Optimal = inl refl
  mark_cases OpenMark = inr refl

  pub enough_is_optimal : (plan : Plan) → IsTruePlan task plan → 2 ^ (length task.allowed + 1) ≤ task.budget + 1 → plan.mark ≡ Optimal
  enough_is_optimal plan p enough =
      elim (mark_cases plan.mark) [
        | inl m ↦ m
        | inr m ↦ p.mark.1 (λ q k stands.
            let left = count_by-le-length (λ c. not (is_decided task.base c)) task.allowed in
            let size = fewer_nodes task is.network p.shape task.base (length task.allowed) p.proper (fact_of plan p) left q k stands in
            let tree : length (preorder p.shape) ≡ length plan.tree = ap length p.in_preorder in
            let used = p.used m in
            let e = doubled_is (suc (length task.allowed)) in
            let one : suc (length task.allowed) ≡ length task.allowed + 1 = omega arith in
            let f : 2 ^ suc (length task.allowed) ≡ 2 ^ (length task.allowed + 1) = ap (λ (n : ℕ). 2 ^ n) one in
            omega (arith, size, tree, used, e, f, enough))
      ]

pub whole_is_task : (net : Net) (rows : RowsValue) (penalty budget : ℕ) → IsNetwork net → IsSized net rows → IsTask (whole_task net rows penalty budget)
whole_is_task net rows penalty budget network sized =
    record {
      network = network;
      sized = sized;
      free = all_from (Contains (free_choices_of net rows)) (free_choices_of net rows) (λ c h. h);
      once = apart_once (free_choices_of net rows) (free_are_apart net network rows);
      base = choice_list_from net rows [] tt (λ d h. absurd (omega (arith, h.1)));
      as_the_rows = λ k d lt. absurd (omega arith);
      apart = λ d h. absurd (omega (arith, h.1));
      covers = λ c h. inr h;
    }

pub optimal_plans_are_optimal : OptimalPlansAreOptimal
optimal_plans_are_optimal =
    record {
      optimal = λ task plan is p marked. optimal_is task is plan p marked;
      bound = λ task plan ds c is p costs. bound_is_low task is plan ds c p costs;
      enough = λ task plan is p enough. enough_is_optimal task is plan p enough;
      whole = whole_is_task;
    }
