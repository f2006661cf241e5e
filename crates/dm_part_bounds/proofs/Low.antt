-- A tree of relaxed costs within a share is low, and the bounds of parts add up to less than any cost.
use Rattle.std.proofs.Common.{◌≡◌, ℕ, ◌≤◌, List, [], ◌∷◌, ◌++◌, Option, refl, sym, subst, ◌∙◌, ◌⊎◌, inl, inr, arith}
use Rattle.std.specs.Prelude.{Contains, All, IsTrue, sum_by}
use Rattle.std.proofs.lemmas.Bool.{not-true}
use Rattle.std.proofs.lemmas.List.Elements.{All-contains, All-head, All-tail, Contains-append_left, Contains-append_right}
use Rattle.std.proofs.lemmas.List.Sums.{sum_by-cons}
use Rattle.dm_network.specs.Net.{Net}
use Rattle.dm_rows.specs.declared.messages.Decision.{Decision}
use Rattle.dm_rows.specs.declared.messages.Flip.{Flip}
use Rattle.dm_rows.specs.Rows.{RowsValue}
use Rattle.dm_rows.specs.Active.{HasNoCycle}
use Rattle.dm_rows.specs.Cost.{Costs, cost_of}
use Rattle.dm_rows.specs.Decide.{free_choices_of, choice_of, with_decisions, IsChoiceList}
use Rattle.dm_rows.specs.Relax.{is_decided}
use Rattle.dm_tree.specs.declared.forms.Mark.TheVariants.{Optimal}
use Rattle.dm_tree.specs.declared.forms.Node.{Node}
use Rattle.dm_tree.specs.declared.forms.Node.TheVariants.{Inner, Cycle, Bound, Open, Hole}
use Rattle.dm_tree.specs.Trees.{Shape, leaf, branch, preorder, IsProper, IsWhole, IsNoHole, StandsAt}
use Rattle.dm_tree.specs.Plans.{Task, is_set, CostsRelaxed, IsOptimal}
use Rattle.dm_paths.proofs.Setting.{differs_in_none, differs_with, locks_of}
use Rattle.dm_traverse.specs.Laws.{IsTask, CostsWithin}
use Rattle.dm_traverse.proofs.Leaves.{Fact, HasLowLeaf, has_low_leaf, from_map}
use Rattle.dm_traverse.proofs.Optimal.{chosen, has_base}
use Rattle.dm_parts.specs.declared.shares.Share.{Share}
use Rattle.dm_parts.specs.declared.parts.PartNode.{PartNode}
use Rattle.dm_parts.specs.declared.parts.PartNode.TheVariants.{Inner as InnerNode, Cycle as CycleNode, Leaf}
use Rattle.dm_parts.specs.declared.parts.Part.{Part}
use Rattle.dm_parts.specs.declared.parts.PlanByParts.{PlanByParts}
use Rattle.dm_parts.specs.Shares.{within, beside}
use Rattle.dm_parts.specs.Weights.{DifferInWeights}
use Rattle.dm_parts.specs.Parts.{task_within, task_beside, as_node, shares_of, IsTruePart, IsTruePlanByParts}
use Rattle.dm_parts.proofs.Alike.{agreeing, as_many_events, as_many_activities, as_many_pairs, same_flip, same_with, same_free, same_network, in_common, back, within_differs, beside_differs}
use Rattle.dm_parts.proofs.Adding.{costs}
use Rattle.dm_part_bounds.specs.Laws.{BoundsByPartsHold}
use Rattle.dm_traverse.proofs.Ended.{stands_in}

-- a node of a part is no open leaf and no hole
no_hole : (n : PartNode) → IsNoHole (as_node n)
no_hole (InnerNode c) = tt
no_hole CycleNode = tt
no_hole (Leaf c) = tt

not_open : (n : PartNode) (c : ℕ) → as_node n ≡ Open c → ⊥
not_open (InnerNode k) c e = cc
not_open CycleNode c e = cc
not_open (Leaf k) c e = cc

whole_where : (t : Shape) → IsProper t → ((n : Node) → Contains (preorder t) n → IsNoHole n) → IsWhole t
whole_where (leaf n) proper none = let front : Contains (n ∷ []) n = (0, omega arith, refl) in none n front
whole_where (branch c a b) proper none = (
  whole_where a proper.1 (λ n h. none n (Contains-append_right (Inner c ∷ []) (preorder a ++ preorder b) n (Contains-append_left (preorder a) (preorder b) n h))),
  whole_where b proper.2 (λ n h. none n (Contains-append_right (Inner c ∷ []) (preorder a ++ preorder b) n (Contains-append_right (preorder a) (preorder b) n h))),
)

all_weaker : {X : Type 0} (P Q : X → Type 0) (xs : List X) → ((x : X) → P x → Q x) → All P xs → All Q xs
all_weaker P Q xs each all k d lt = each _ (all k d lt)

-- a task whose network has other weights
abbrev with_net : Task → Net → Task
with_net task other =
    record { net = other; rows = task.rows; penalty = task.penalty; base = task.base; allowed = task.allowed; budget = task.budget }

module _ (task : Task) (is : IsTask task) (other : Net) (d : DifferInWeights task.net other) where
  still_list : (ds : List Decision) → IsChoiceList task.net task.rows ds → IsChoiceList other task.rows ds
  still_list ds list = record {
    free = subst (λ cs. All (λ e. Contains cs (choice_of e)) ds) (same_free task.net other d task.rows) list.free;
    once = list.once;
  }

  still_task : IsTask (with_net task other)
  still_task = record {
    network = same_network task.net other d is.network;
    sized = record {
      event_delays = is.sized.event_delays ∙ as_many_events task.net other d;
      act_delays = is.sized.act_delays ∙ as_many_activities task.net other d;
      passed = is.sized.passed ∙ as_many_events task.net other d;
      cancelled = is.sized.cancelled ∙ as_many_events task.net other d;
      kept = is.sized.kept ∙ as_many_activities task.net other d;
      locked_changes = is.sized.locked_changes ∙ as_many_activities task.net other d;
      small_first = is.sized.small_first ∙ as_many_pairs task.net other d;
      locked_pairs = is.sized.locked_pairs ∙ as_many_pairs task.net other d;
    };
    free = subst (λ cs. All (Contains cs) task.allowed) (same_free task.net other d task.rows) is.free;
    once = is.once;
    base = still_list task.base is.base;
    as_the_rows = subst (λ (f : Decision → Option Flip). All (λ e. IsTrue (is_set task.rows (f e))) task.base)
        (agreeing (same_flip task.net other d)) is.as_the_rows;
    apart = is.apart;
    covers = λ c h. is.covers c (subst (λ cs. Contains cs c) (sym (same_free task.net other d task.rows)) h);
  }

  -- choices without a cycle have none with the other weights
  still_acyclic : (ds : List Decision) → HasNoCycle task.net (with_decisions task.net task.rows ds) →
      HasNoCycle other (with_decisions other task.rows ds)
  still_acyclic ds none =
      subst (HasNoCycle other) (same_with task.net other d task.rows ds)
      (λ cycle c. none cycle ((in_common other task.net (back task.net other d)).cycles (with_decisions task.net task.rows ds) cycle c))

  still_costs : (ds : List Decision) (c : ℕ) (h : Costs task.net (with_decisions task.net task.rows ds) task.penalty c) →
      Costs other (with_decisions other task.rows ds) task.penalty (cost_of other (with_decisions task.net task.rows ds) h.times task.penalty)
  still_costs ds c h =
      let k : ℕ = cost_of other (with_decisions task.net task.rows ds) h.times task.penalty in
      subst (λ (r : RowsValue). Costs other r task.penalty k) (same_with task.net other d task.rows ds)
      (record { times = h.times; least = (in_common task.net other d).least (with_decisions task.net task.rows ds) h.times h.least; cost = refl })

  still_within : (ds : List Decision) (c : ℕ) (h : CostsWithin task ds c) →
      CostsWithin (with_net task other) ds (cost_of other (with_decisions task.net task.rows ds) h.cost.cost.times task.penalty)
  still_within ds c h = record {
    decides = still_list ds h.decides;
    allowed = h.allowed;
    cost = record { no_cycle = still_acyclic ds h.cost.no_cycle; cost = still_costs ds c h.cost.cost };
  }

-- a tree of relaxed costs has a leaf that is no dearer than any choices
tree_is_low : (task : Task) → IsTask task → (shape : Shape) → IsProper shape → IsWhole shape →
    ((q : List Decision) (n : Node) → StandsAt shape q n → Fact task (task.base ++ q) n) → (ds : List Decision) (c : ℕ) →
    CostsWithin task ds c → HasLowLeaf shape c
tree_is_low task is shape proper whole facts ds c h =
    has_low_leaf task is.network is.sized (with_decisions task.net task.rows ds)
    (differs_with task.net task.rows task.rows ds (differs_in_none task.rows))
    (locks_of task.net is.network task.rows is.sized ds h.decides.free) h.cost.no_cycle c h.cost.cost shape task.base proper whole facts
    is.base (has_base task is ds h.decides h.allowed)

module _ (task : Task) (is : IsTask task) where
  module _ (part : Part) (true_part : IsTruePart task part) where
    from_tree : (n : Node) → Contains (preorder true_part.shape) n → (x : PartNode) × Contains part.tree x × (as_node x ≡ n)
    from_tree n h = from_map as_node part.tree n (subst (λ ns. Contains ns n) true_part.in_preorder h)

    no_hole_there : (n : Node) → Contains (preorder true_part.shape) n → IsNoHole n
    no_hole_there n h = let x = from_tree n h in subst IsNoHole x.2 (no_hole x.0)

    no_open_there : (p : List Decision) (c : ℕ) → StandsAt true_part.shape p (Open c) → ⊥
    no_open_there p c s = let x = from_tree (Open c) (stands_in true_part.shape p (Open c) s) in not_open x.0 c x.2

    fact_there : (q : List Decision) (n : Node) → StandsAt true_part.shape q n → Fact (task_within task part.share) (task.base ++ q) n
    fact_there q (Inner k) s =
        let b = true_part.branches q k s in
        let free : Contains (free_choices_of task.net task.rows) k =
        All-contains (Contains (free_choices_of task.net task.rows)) task.allowed k is.free b.allowed in (
          record {
            free = subst (λ cs. Contains cs k) (same_free task.net (within task.net part.share) (within_differs task.net part.share) task.rows) free;
            undecided = not-true (is_decided (task.base ++ q) k) b.undecided;
          },
          b.allowed,
        )
    fact_there q Cycle s =
        let c = true_part.cycles q s in (
          c.cycle,
          (in_common task.net (within task.net part.share) (within_differs task.net part.share)).relaxed_cycles task.rows (task.base ++ q) c.cycle c.is_cycle,
        )
    fact_there q (Bound k) s = true_part.leaves q k s
    fact_there q (Open k) s = absurd (no_open_there q k s)
    fact_there q Hole s = tt

    pub part_is_low : (ds : List Decision) (c : ℕ) → CostsWithin (task_within task part.share) ds c → part.bound ≤ c
    part_is_low ds c h =
        let low = tree_is_low (task_within task part.share)
        (still_task task is (within task.net part.share) (within_differs task.net part.share)) true_part.shape true_part.proper
        (whole_where true_part.shape true_part.proper no_hole_there) fact_there ds c h in
        let le = low.low in
        elim low.stands [
          | inl s ↦ let below = true_part.bound.below low.path low.cost s in omega (arith, below, le)
          | inr s ↦ absurd (no_open_there low.path low.cost s)
        ]

  -- the rest, as a tree of one leaf
  pub rest_is_low : (shares : List Share) (rest : ℕ) → CostsRelaxed (task_beside task shares) [] rest → (ds : List Decision) (c : ℕ) →
      CostsWithin (task_beside task shares) ds c → rest ≤ c
  rest_is_low shares rest relaxed ds c h =
      let low = tree_is_low (task_beside task shares) (still_task task is (beside task.net shares) (beside_differs task.net shares))
      (leaf (Bound rest)) tt tt at_leaf ds c h in
      of_leaf low.path low.cost low.stands low.low
    where
      at_leaf : (q : List Decision) (n : Node) → StandsAt (leaf (Bound rest)) q n → Fact (task_beside task shares) (task.base ++ q) n
      at_leaf [] n s = subst (Fact (task_beside task shares) (task.base ++ [])) s relaxed
      at_leaf (e ∷ q) n s = elim s [ ]

      of_leaf : (p : List Decision) (k : ℕ) → StandsAt (leaf (Bound rest)) p (Bound k) ⊎ StandsAt (leaf (Bound rest)) p (Open k) → k ≤ c → rest ≤ c
      of_leaf [] k (inl s) le = let same : rest ≡ k = cc in omega (arith, same, le)
      of_leaf [] k (inr s) le = let e : Bound rest ≡ Open k = s in cc
      of_leaf (e ∷ p) k (inl s) le = elim s [ ]
      of_leaf (e ∷ p) k (inr s) le = elim s [ ]

  -- the bounds of parts that are low add up to no more
  bounds_add_up : (f : Share → ℕ) (parts : List Part) → All (λ (part : Part). part.bound ≤ f part.share) parts →
      sum_by (λ (part : Part). part.bound) parts ≤ sum_by f (shares_of parts)
  bounds_add_up f [] all = omega arith
  bounds_add_up f (part ∷ parts) all =
      let here : part.bound ≤ f part.share = All-head (λ (p : Part). p.bound ≤ f p.share) part parts all in
      let later = bounds_add_up f parts (All-tail (λ (p : Part). p.bound ≤ f p.share) part parts all) in
      let e = sum_by-cons (λ (p : Part). p.bound) part parts in
      let e' = sum_by-cons f part.share (shares_of parts) in
      omega (arith, here, later, e, e')

  module _ (plan : PlanByParts) (true_plan : IsTruePlanByParts task plan) where
    pub plan_is_low : (ds : List Decision) (c : ℕ) → CostsWithin task ds c → plan.bound ≤ c
    plan_is_low ds c h =
        let r : RowsValue = with_decisions task.net task.rows ds in
        let x : List ℕ = h.cost.cost.times in
        let shares : List Share = shares_of plan.parts in
        let f : Share → ℕ = λ share. cost_of (within task.net share) r x task.penalty in
        let each : All (λ (part : Part). part.bound ≤ f part.share) plan.parts =
        all_weaker (IsTruePart task) (λ (part : Part). part.bound ≤ f part.share) plan.parts
        (λ part t. part_is_low part t ds (f part.share)
        (still_within task is (within task.net part.share) (within_differs task.net part.share) ds c h)) true_plan.parts in
        let parts = bounds_add_up f plan.parts each in
        let rest : plan.rest ≤ cost_of (beside task.net shares) r x task.penalty =
        rest_is_low shares plan.rest true_plan.rest ds (cost_of (beside task.net shares) r x task.penalty)
        (still_within task is (beside task.net shares) (beside_differs task.net shares) ds c h) in
        let whole = costs task.net shares true_plan.apart r x task.penalty in
        let cost = h.cost.cost.cost in
        let bound = true_plan.bound in
        omega (arith, parts, rest, whole, cost, bound)

    pub plan_is_optimal : plan.mark ≡ Optimal → IsOptimal task plan.choices plan.cost
    plan_is_optimal marked =
        let list = chosen task is plan.choices true_plan.choices in
        let same : plan.bound ≡ plan.cost = true_plan.mark.0 marked in
        record {
          decides = list.0;
          allowed = list.1;
          cost = true_plan.cost;
          least = λ others other decides allowed costs_so.
              let low = plan_is_low others other (record { decides = decides; allowed = allowed; cost = costs_so }) in
              omega (arith, same, low);
        }

pub bounds_by_parts_hold : BoundsByPartsHold
bounds_by_parts_hold = record {
  part = λ task part ds c is t h. part_is_low task is part t ds c h;
  plan = λ task plan ds c is t h. plan_is_low task is plan t ds c h;
  optimal = λ task plan is t marked. plan_is_optimal task is plan t marked;
}
