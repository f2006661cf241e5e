-- A true plan is a true plan by one part of all terms.
use Rattle.std.proofs.Common.{◌≡◌, ℕ, ◌+◌, ◌*◌, ◌-◌, ◌<◌, ◌≤◌, Bool, true, false, cond, eqb, List, [], ◌∷◌, ◌++◌, length, map, refl, sym, ap, subst, ◌∙◌, ◌⊎◌, ◌↔◌, inl, inr, arith}
use Rattle.std.specs.Prelude.{All, not, ◌&&◌, ◌||◌, filter, sum_by, get_or, ◌==◌, if◌then◌else◌}
use Rattle.std.specs.List.{range_with_len}
use Rattle.std.specs.List.Sorted.{IsStrictlyIncreasing}
use Rattle.std.proofs.lemmas.Bool.{eqb-true, eq-eqb, and_parts, or_left}
use Rattle.std.proofs.lemmas.List.{get_or-map, length-map, map-append}
use Rattle.std.proofs.lemmas.List.Elements.{All-filter, All-nil, All-cons, Contains-get_or}
use Rattle.std.proofs.lemmas.List.Folds.{list_any_at}
use Rattle.std.proofs.lemmas.List.FromFn.{length-range_with_len, get_or-range_with_len}
use Rattle.std.proofs.lemmas.List.Kept.{IsStrictlyIncreasing-filter}
use Rattle.std.proofs.lemmas.List.Sums.{sum_by-cons}
use Rattle.dm_base.specs.declared.ids.ActId.{ActId}
use Rattle.dm_base.specs.declared.ids.EventId.{EventId}
use Rattle.dm_network.specs.Net.{Net, event_at, activity_at, no_event, no_activity, is_change}
use Rattle.dm_network.specs.Start.{IsNetwork}
use Rattle.dm_network.proofs.Keys.{rises_between}
use Rattle.dm_rows.specs.declared.messages.Choice.{Choice}
use Rattle.dm_rows.specs.declared.messages.Decision.{Decision}
use Rattle.dm_rows.specs.Rows.{RowsValue, is_cancelled, kept_at}
use Rattle.dm_rows.specs.Active.{has_passed, has_cancelled_end}
use Rattle.dm_rows.specs.Cost.{is_arrival, event_cost, cancelled_weight, charged_weight, is_lost_change, comes_too_early}
use Rattle.dm_rows.specs.Decide.{with_decisions}
use Rattle.dm_rows.specs.Relax.{is_undecided_change, is_relaxed_lost}
use Rattle.dm_rows.specs.Timetable.{time_at}
use Rattle.dm_tree.specs.declared.forms.Mark.TheVariants.{Optimal, Open as OpenMark}
use Rattle.dm_tree.specs.declared.forms.Node.{Node}
use Rattle.dm_tree.specs.declared.forms.Node.TheVariants.{Inner, Cycle, Bound, Open, Hole}
use Rattle.dm_tree.specs.declared.plans.Plan.{Plan}
use Rattle.dm_tree.specs.Trees.{Shape, leaf, branch, preorder, IsProper, IsWhole, IsNoHole, IsLeaf, StandsAt}
use Rattle.dm_tree.specs.Relaxed.{IsRelaxedLeast, RelaxedCosts, relaxed_cost_of}
use Rattle.dm_tree.specs.Plans.{Task, CostsRelaxed, IsTrueInner, IsTrueCycle, IsTruePlan}
use Rattle.dm_paths.proofs.Apart.{listed}
use Rattle.dm_paths.proofs.Naming.{from_place, event_found, activity_found}
use Rattle.dm_traverse.specs.Laws.{IsTask}
use Rattle.dm_traverse.proofs.Leaves.{violated_is_undecided}
use Rattle.dm_traverse.proofs.Optimal.{optimal_is, enough_is_optimal}
use Rattle.dm_parts.specs.declared.parts.Part.{Part}
use Rattle.dm_parts.specs.Shares.{within, beside, has_arrival, has_change, have_arrival, have_change, NamesArrival, NamesChange, IsShare}
use Rattle.dm_parts.specs.Parts.{task_beside, as_node, IsTrueBranch, IsTruePart, IsTruePlanByParts}
use Rattle.dm_parts.proofs.Alike.{map_map, is_missed, same_kind, in_common, within_differs, beside_differs}
use Rattle.dm_parts.proofs.Adding.{sum_same, sum_of_nothing, alone_is_apart, late_beside, cancelled_beside, charged_beside, relaxed}
use Rattle.dm_part_bounds.specs.OnePart.{arrives, changes, all_terms, part_node, in_one_part}
use Rattle.dm_part_bounds.specs.Laws.{OnePartWillDo}

-- ---- all terms of a network are a share

-- numbers that rise from place to place rise along the places that pass a test
rise_along : (number : ℕ → ℕ) (n : ℕ) (test : ℕ → Bool) → ((i j : ℕ) → i < j → j < n → number i < number j) →
    IsStrictlyIncreasing (map number (filter test (range_with_len 0 n)))
rise_along number n test rise k below =
    let places : List ℕ = filter test (range_with_len 0 n) in
    let size : length (map number places) ≡ length places = length-map places number in
    let low : All (λ i. i < n) (range_with_len 0 n) =
    λ m d lt.
    let lt' : m < n = omega (arith, length-range_with_len 0 n) in
    let e = get_or-range_with_len 0 n m d lt' in
    omega (arith, e) in
    let steady : IsStrictlyIncreasing (range_with_len 0 n) =
    λ m lt.
    let lt' : m + 1 < n = omega (arith, length-range_with_len 0 n, lt) in
    let e = get_or-range_with_len 0 n m 0 (omega (arith, lt')) in
    let f = get_or-range_with_len 0 n (m + 1) 0 lt' in
    omega (arith, e, f) in
    let here : k < length places = omega (arith, size, below) in
    let next : k + 1 < length places = omega (arith, size, below) in
    let up = IsStrictlyIncreasing-filter test (range_with_len 0 n) steady k next in
    let top : get_or places (k + 1) 0 < n = All-filter test (λ i. i < n) (range_with_len 0 n) low (k + 1) 0 next in
    let e = get_or-map number places k 0 0 here in
    let f = get_or-map number places (k + 1) 0 0 next in
    let g = rise (get_or places k 0) (get_or places (k + 1) 0) up top in
    omega (arith, e, f, g)

all_from_places : {X : Type 0} (P : X → Type 0) (f : ℕ → X) (test : ℕ → Bool) (n : ℕ) → ((i : ℕ) → i < n → test i ≡ true → P (f i)) →
    All P (map f (filter test (range_with_len 0 n)))
all_from_places P f test n each k d lt =
    let at = from_place f test n _ (Contains-get_or (map f (filter test (range_with_len 0 n))) k d lt) in
    subst P at.is (each at.place at.below at.passes)

module _ (net : Net) (network : IsNetwork net) where
  id_rises : (i j : ℕ) → i < j → j < length net.events → (event_at net i).id.0 < (event_at net j).id.0
  id_rises i j lt below =
      let size = length-map net.events (λ e. e.id.0) in
      let h = rises_between (map (λ e. e.id.0) net.events) network.formed.events_ascend i j lt (omega (arith, size, below)) in
      let e = get_or-map (λ e. e.id.0) net.events i no_event 0 (omega (arith, lt, below)) in
      let f = get_or-map (λ e. e.id.0) net.events j no_event 0 below in
      omega (arith, e, f, h)

  act_id_rises : (a b : ℕ) → a < b → b < length net.activities → (activity_at net a).id.0 < (activity_at net b).id.0
  act_id_rises a b lt below =
      let size = length-map net.activities (λ e. e.id.0) in
      let h = rises_between (map (λ e. e.id.0) net.activities) network.formed.activities_ascend a b lt (omega (arith, size, below)) in
      let e = get_or-map (λ e. e.id.0) net.activities a no_activity 0 (omega (arith, lt, below)) in
      let f = get_or-map (λ e. e.id.0) net.activities b no_activity 0 below in
      omega (arith, e, f, h)

  all_are_share : IsShare net (all_terms net)
  all_are_share = record {
    arrivals_ascend =
        subst IsStrictlyIncreasing
        (sym (map_map (λ i. (event_at net i).id) (λ (e : EventId). e.0) (filter (arrives net) (range_with_len 0 (length net.events)))))
        (rise_along (λ i. (event_at net i).id.0) (length net.events) (arrives net) id_rises);
    changes_ascend =
        subst IsStrictlyIncreasing
        (sym (map_map (λ a. (activity_at net a).id) (λ (e : ActId). e.0) (filter (changes net) (range_with_len 0 (length net.activities)))))
        (rise_along (λ a. (activity_at net a).id.0) (length net.activities) (changes net) act_id_rises);
    are_arrivals = all_from_places (NamesArrival net) (λ i. (event_at net i).id) (arrives net) (length net.events)
        (λ i lt is. record { place = i; found = event_found net network i lt; arrives = is });
    are_changes = all_from_places (NamesChange net) (λ a. (activity_at net a).id) (changes net) (length net.activities)
        (λ a lt is. record { place = a; found = activity_found net network a lt; changes = is });
  }

-- ---- nothing costs anything beside all terms

nothing_adds_up : (f : ℕ → ℕ) (n : ℕ) → ((i : ℕ) → i < n → f i ≡ 0) → sum_by f (range_with_len 0 n) ≡ 0
nothing_adds_up f n none = sum_same f (λ i. 0) 0 n (λ i lt. none i (omega (arith, lt))) ∙ sum_of_nothing (range_with_len 0 n)

taken_or_free : (taken counts : Bool) (w : ℕ) → (counts ≡ true → taken ≡ true) → cond taken 0 (cond counts w 0) ≡ 0
taken_or_free true counts w h = refl
taken_or_free false false w h = refl
taken_or_free false true w h = let e : false ≡ true = h refl in cc

four_nothings : {a b c d : ℕ} (p : ℕ) → a ≡ 0 → b ≡ p * 0 → c ≡ p * 0 → d ≡ p * 0 → a + b + c + d ≡ 0
four_nothings p e f g h = omega (arith, e, f, g, h)

module _ (net : Net) where
  has_each_arrival : (i : ℕ) → i < length net.events → is_arrival (event_at net i).kind ≡ true → have_arrival (all_terms net ∷ []) (event_at net i).id ≡ true
  has_each_arrival i lt is =
      let id : EventId = (event_at net i).id in
      let c = listed (λ j. (event_at net j).id) (arrives net) 0 (length net.events) i (omega arith) (omega (arith, lt)) is in
      let found : has_arrival (all_terms net) id ≡ true =
      list_any_at (λ (e : EventId). e.0 == id.0) (all_terms net).arrivals c.0 id c.1
      (eq-eqb (get_or (all_terms net).arrivals c.0 id).0 id.0 (ap (λ (e : EventId). e.0) c.2)) in
      or_left (has_arrival (all_terms net) id) false found

  has_each_change : (a : ℕ) → a < length net.activities → is_change (activity_at net a).kind ≡ true → have_change (all_terms net ∷ []) (activity_at net a).id ≡ true
  has_each_change a lt is =
      let id : ActId = (activity_at net a).id in
      let c = listed (λ j. (activity_at net j).id) (changes net) 0 (length net.activities) a (omega arith) (omega (arith, lt)) is in
      let found : has_change (all_terms net) id ≡ true =
      list_any_at (λ (e : ActId). e.0 == id.0) (all_terms net).changes c.0 id c.1
      (eq-eqb (get_or (all_terms net).changes c.0 id).0 id.0 (ap (λ (e : ActId). e.0) c.2)) in
      or_left (has_change (all_terms net) id) false found

  no_lateness : (rows : RowsValue) (x : List ℕ) →
      sum_by (event_cost (beside net (all_terms net ∷ [])) rows x) (range_with_len 0 (length (beside net (all_terms net ∷ [])).events)) ≡ 0
  no_lateness rows x =
      late_beside net (all_terms net ∷ []) (alone_is_apart (all_terms net)) rows x
      ∙ nothing_adds_up (λ i. cond (have_arrival (all_terms net ∷ []) (event_at net i).id) 0 (event_cost net rows x i)) (length net.events)
      (λ i lt.
      taken_or_free (have_arrival (all_terms net ∷ []) (event_at net i).id) (is_arrival (event_at net i).kind && not (is_cancelled rows i))
      ((event_at net i).weight * (time_at x i - (event_at net i).time))
      (λ is. has_each_arrival i lt (and_parts (is_arrival (event_at net i).kind) (not (is_cancelled rows i)) is).0))

  no_cancelled : (rows : RowsValue) →
      sum_by (cancelled_weight (beside net (all_terms net ∷ [])) rows) (range_with_len 0 (length (beside net (all_terms net ∷ [])).events)) ≡ 0
  no_cancelled rows =
      cancelled_beside net (all_terms net ∷ []) (alone_is_apart (all_terms net)) rows
      ∙ nothing_adds_up (λ i. cond (have_arrival (all_terms net ∷ []) (event_at net i).id) 0 (cancelled_weight net rows i)) (length net.events)
      (λ i lt.
      taken_or_free (have_arrival (all_terms net ∷ []) (event_at net i).id) (is_arrival (event_at net i).kind && is_cancelled rows i)
      (event_at net i).weight
      (λ is. has_each_arrival i lt (and_parts (is_arrival (event_at net i).kind) (is_cancelled rows i) is).0))

  no_charge : (charged : ℕ → Bool) → ((a : ℕ) → charged a ≡ true → is_change (activity_at (beside net (all_terms net ∷ [])) a).kind ≡ true) →
      sum_by (charged_weight (beside net (all_terms net ∷ [])) charged) (range_with_len 0 (length (beside net (all_terms net ∷ [])).activities)) ≡ 0
  no_charge charged are_changes =
      charged_beside net (all_terms net ∷ []) (alone_is_apart (all_terms net)) charged
      ∙ nothing_adds_up (λ a. cond (have_change (all_terms net ∷ []) (activity_at net a).id) 0 (charged_weight net charged a)) (length net.activities)
      (λ a lt.
      taken_or_free (have_change (all_terms net ∷ []) (activity_at net a).id) (charged a) (activity_at net a).weight
      (λ is. has_each_change a lt
      (ap is_change (same_kind net (beside net (all_terms net ∷ [])) (beside_differs net (all_terms net ∷ [])) a) ∙ are_changes a is)))

  -- what a relaxed problem charges for, and what is missed, are changes
  dropped_is_change : (other : Net) (rows : RowsValue) (path : List Decision) (a : ℕ) → is_relaxed_lost other rows path a ≡ true →
      is_change (activity_at other a).kind ≡ true
  dropped_is_change other rows path a h =
      let q : RowsValue = with_decisions other rows path in
      let act = activity_at other a in
      let both = and_parts (is_lost_change other q a) (not (is_undecided_change other rows path a)) h in
      let two = and_parts (is_change act.kind && not (has_passed q act.head)) (not (kept_at q a) || has_cancelled_end other q a) both.0 in
      (and_parts (is_change act.kind) (not (has_passed q act.head)) two.0).0

  missed_is_change : (other : Net) (rows : RowsValue) (x : List ℕ) (a : ℕ) → is_missed other rows x a ≡ true → is_change (activity_at other a).kind ≡ true
  missed_is_change other rows x a h =
      let act = activity_at other a in
      let both = and_parts (is_change act.kind && has_passed rows act.head) (is_cancelled rows act.tail || comes_too_early other rows x a) h in
      (and_parts (is_change act.kind) (has_passed rows act.head) both.0).0

  nothing_beside : (rows : RowsValue) (path : List Decision) (x : List ℕ) (penalty : ℕ) →
      relaxed_cost_of (beside net (all_terms net ∷ [])) rows path x penalty ≡ 0
  nothing_beside rows path x penalty =
      let other : Net = beside net (all_terms net ∷ []) in
      let late = no_lateness (with_decisions other rows path) x in
      let gone : penalty * sum_by (cancelled_weight other (with_decisions other rows path)) (range_with_len 0 (length other.events)) ≡ penalty * 0 =
      ap (λ n. penalty * n) (no_cancelled (with_decisions other rows path)) in
      let dear : penalty * sum_by (charged_weight other (is_relaxed_lost other rows path)) (range_with_len 0 (length other.activities)) ≡ penalty * 0 =
      ap (λ n. penalty * n) (no_charge (is_relaxed_lost other rows path) (dropped_is_change other rows path)) in
      let lost : penalty * sum_by (charged_weight other (is_missed other (with_decisions other rows path) x)) (range_with_len 0 (length other.activities)) ≡ penalty * 0 =
      ap (λ n. penalty * n) (no_charge (is_missed other (with_decisions other rows path) x) (missed_is_change other (with_decisions other rows path) x)) in
      four_nothings penalty late gone dear lost

  -- so all terms cost what the cost is
  all_costs : (rows : RowsValue) (path : List Decision) (x : List ℕ) (penalty : ℕ) →
      relaxed_cost_of net rows path x penalty ≡ relaxed_cost_of (within net (all_terms net)) rows path x penalty
  all_costs rows path x penalty =
      let sum = relaxed net (all_terms net ∷ []) (alone_is_apart (all_terms net)) rows path x penalty in
      let one = sum_by-cons (λ share. relaxed_cost_of (within net share) rows path x penalty) (all_terms net) [] in
      let none = nothing_beside rows path x penalty in
      omega (arith, sum, one, none)

  all_cost_so : (rows : RowsValue) (path : List Decision) (penalty c : ℕ) → RelaxedCosts net rows path penalty c →
      RelaxedCosts (within net (all_terms net)) rows path penalty c
  all_cost_so rows path penalty c h = record {
    times = h.times;
    least = (in_common net (within net (all_terms net)) (within_differs net (all_terms net))).relaxed_least rows path h.times h.least;
    cost = h.cost ∙ all_costs rows path h.times penalty;
  }

-- ---- a tree whose open leaves are closed

abbrev closed : Node → Node
closed n = as_node (part_node n)

abbrev closing : Shape → Shape
closing (leaf n) = leaf (closed n)
closing (branch c a b) = branch c (closing a) (closing b)

closing_preorder : (t : Shape) → preorder (closing t) ≡ map closed (preorder t)
closing_preorder (leaf n) = refl
closing_preorder (branch c a b) =
    ap (λ l. Inner c ∷ l)
    (ap (λ l. l ++ preorder (closing b)) (closing_preorder a) ∙ ap (λ l. map closed (preorder a) ++ l) (closing_preorder b)
    ∙ sym (map-append closed (preorder a) (preorder b)))

closed_is_leaf : (n : Node) → IsLeaf n → IsLeaf (closed n)
closed_is_leaf (Inner c) h = h
closed_is_leaf Cycle h = tt
closed_is_leaf (Bound c) h = tt
closed_is_leaf (Open c) h = tt
closed_is_leaf Hole h = tt

closing_proper : (t : Shape) → IsProper t → IsProper (closing t)
closing_proper (leaf n) h = closed_is_leaf n h
closing_proper (branch c a b) h = (h.0, closing_proper a h.1, closing_proper b h.2)

stood : (t : Shape) (path : List Decision) (n : Node) → StandsAt (closing t) path n → (m : Node) × StandsAt t path m × (closed m ≡ n)
stood (leaf m) [] n s = (m, refl, s)
stood (leaf m) (d ∷ path) n s = elim s [ ]
stood (branch c a b) [] n s = (Inner c, refl, s)
stood (branch c a b) (d ∷ path) n (inl s) = let r = stood a path n s.1 in (r.0, inl (s.0, r.1), r.2)
stood (branch c a b) (d ∷ path) n (inr s) = let r = stood b path n s.1 in (r.0, inr (s.0, r.1), r.2)

stands_closed : (t : Shape) (path : List Decision) (m : Node) → StandsAt t path m → StandsAt (closing t) path (closed m)
stands_closed (leaf n) [] m s = ap closed s
stands_closed (leaf n) (d ∷ path) m s = elim s [ ]
stands_closed (branch c a b) [] m s = ap closed s
stands_closed (branch c a b) (d ∷ path) m (inl s) = inl (s.0, stands_closed a path m s.1)
stands_closed (branch c a b) (d ∷ path) m (inr s) = inr (s.0, stands_closed b path m s.1)

was_inner : (m : Node) (c : Choice) → closed m ≡ Inner c → m ≡ Inner c
was_inner (Inner k) c e = e
was_inner Cycle c e = cc
was_inner (Bound k) c e = cc
was_inner (Open k) c e = cc
was_inner Hole c e = cc

was_cycle : (m : Node) → closed m ≡ Cycle → (m ≡ Cycle) ⊎ (m ≡ Hole)
was_cycle (Inner k) e = cc
was_cycle Cycle e = inl refl
was_cycle (Bound k) e = cc
was_cycle (Open k) e = cc
was_cycle Hole e = inr refl

was_leaf : (m : Node) (c : ℕ) → closed m ≡ Bound c → (m ≡ Bound c) ⊎ (m ≡ Open c)
was_leaf (Inner k) c e = cc
was_leaf Cycle c e = cc
was_leaf (Bound k) c e = inl e
was_leaf (Open k) c e = let f : Bound k ≡ Bound c = e in let same : k ≡ c = cc in inr (ap Open same)
was_leaf Hole c e = cc

no_hole_stands : (t : Shape) (path : List Decision) → IsWhole t → StandsAt t path Hole → ⊥
no_hole_stands (leaf n) [] whole s = subst IsNoHole s whole
no_hole_stands (leaf n) (d ∷ path) whole s = elim s [ ]
no_hole_stands (branch c a b) [] whole s = let e : Inner c ≡ Hole = s in cc
no_hole_stands (branch c a b) (d ∷ path) whole (inl s) = no_hole_stands a path whole.0 s.1
no_hole_stands (branch c a b) (d ∷ path) whole (inr s) = no_hole_stands b path whole.1 s.1

root_of : (t : Shape) → (n : Node) × StandsAt t [] n
root_of (leaf n) = (n, refl)
root_of (branch c a b) = (Inner c, refl)

-- where the root is a cycle, nothing else stands
lone_cycle : (t : Shape) (path : List Decision) (m : Node) → StandsAt t [] Cycle → StandsAt t path m → m ≡ Cycle
lone_cycle (leaf n) [] m s s' = sym s' ∙ s
lone_cycle (leaf n) (d ∷ path) m s s' = elim s' [ ]
lone_cycle (branch c a b) path m s s' = let e : Inner c ≡ Cycle = s in cc

-- ---- the plan

marked_so : (b c : ℕ) → ((if b == c then Optimal else OpenMark) ≡ Optimal) ↔ (b ≡ c)
marked_so b c = by_test (eqb b c) refl
  where
    by_test : (t : Bool) → eqb b c ≡ t → ((if t then Optimal else OpenMark) ≡ Optimal) ↔ (b ≡ c)
    by_test true is = (λ e. eqb-true b c is, λ e. refl)
    by_test false is = (λ e. cc, λ e. (let f : eqb b c ≡ true = eq-eqb b c e in cc))

module _ (task : Task) (is : IsTask task) (plan : Plan) (p : IsTruePlan task plan) where
  true_branch : (path : List Decision) (choice : Choice) → IsTrueInner task path choice → IsTrueBranch task path choice
  true_branch path choice i = record {
    no_cycle = i.no_cycle;
    allowed = i.allowed;
    undecided =
        ap not (violated_is_undecided task.net task.rows (task.base ++ path) i.violated.times choice i.violated.violated).undecided;
  }

  true_leaf : (path : List Decision) (c : ℕ) (m : Node) → StandsAt p.shape path m → (m ≡ Bound c) ⊎ (m ≡ Open c) → CostsRelaxed task path c
  true_leaf path c m s (inl e) = (p.bounds path c (subst (StandsAt p.shape path) e s)).cost
  true_leaf path c m s (inr e) =
      let v = (p.opens path c (subst (StandsAt p.shape path) e s)).violated in
      record { times = v.times; least = v.least; cost = v.cost }

  low_leaf : (path : List Decision) (c : ℕ) (m : Node) → StandsAt p.shape path m → (m ≡ Bound c) ⊎ (m ≡ Open c) → plan.bound ≤ c
  low_leaf path c m s (inl e) = p.bound.below_bounds path c (subst (StandsAt p.shape path) e s)
  low_leaf path c m s (inr e) = p.bound.below_opens path c (subst (StandsAt p.shape path) e s)

  true_cycle : (path : List Decision) (m : Node) → StandsAt p.shape path m → (m ≡ Cycle) ⊎ (m ≡ Hole) → IsTrueCycle task path
  true_cycle path m s (inl e) = p.cycles path (subst (StandsAt p.shape path) e s)
  true_cycle path m s (inr e) = absurd (no_hole_stands p.shape path p.whole (subst (StandsAt p.shape path) e s))

  is_part : IsTruePart task (record { share = all_terms task.net; tree = map part_node plan.tree; bound = plan.bound })
  is_part = record {
    share = all_are_share task.net is.network;
    shape = closing p.shape;
    in_preorder = closing_preorder p.shape ∙ sym (map_map part_node as_node (preorder p.shape)) ∙ ap (λ ns. map as_node (map part_node ns)) p.in_preorder;
    proper = closing_proper p.shape p.proper;
    branches = λ path choice s.
        let r = stood p.shape path (Inner choice) s in
        true_branch path choice (p.inners path choice (subst (StandsAt p.shape path) (was_inner r.0 choice r.2) r.1));
    cycles = λ path s. let r = stood p.shape path Cycle s in true_cycle path r.0 r.1 (was_cycle r.0 r.2);
    leaves = λ path c s.
        let r = stood p.shape path (Bound c) s in
        all_cost_so task.net task.rows (task.base ++ path) task.penalty c (true_leaf path c r.0 r.1 (was_leaf r.0 c r.2));
    bound = record {
      path = p.bound.path;
      reached = elim p.bound.reached [
        | inl s ↦ stands_closed p.shape p.bound.path (Bound plan.bound) s
        | inr s ↦ stands_closed p.shape p.bound.path (Open plan.bound) s
      ];
      below = λ path c s. let r = stood p.shape path (Bound c) s in low_leaf path c r.0 r.1 (was_leaf r.0 c r.2);
    };
  }

  -- the least times where nothing is decided
  abbrev RootTimes : Type 0
  RootTimes = (x : List ℕ) × IsRelaxedLeast task.net task.rows (task.base ++ []) x

  root_times_at : (n : Node) → StandsAt p.shape [] n → RootTimes
  root_times_at (Inner c) s = let v = (p.inners [] c s).violated in (v.times, v.least)
  root_times_at Cycle s =
      elim p.bound.reached [
        | inl r ↦ (let e : Bound plan.bound ≡ Cycle = lone_cycle p.shape p.bound.path (Bound plan.bound) s r in cc)
        | inr r ↦ (let e : Open plan.bound ≡ Cycle = lone_cycle p.shape p.bound.path (Open plan.bound) s r in cc)
      ]
  root_times_at (Bound c) s = let v = (p.bounds [] c s).cost in (v.times, v.least)
  root_times_at (Open c) s = let v = (p.opens [] c s).violated in (v.times, v.least)
  root_times_at Hole s = absurd (no_hole_stands p.shape [] p.whole s)

  no_rest : CostsRelaxed (task_beside task (all_terms task.net ∷ [])) [] 0
  no_rest =
      let root = root_of p.shape in
      let x = root_times_at root.0 root.1 in
      record {
        times = x.0;
        least = (in_common task.net (beside task.net (all_terms task.net ∷ [])) (beside_differs task.net (all_terms task.net ∷ []))).relaxed_least
            task.rows (task.base ++ []) x.0 x.1;
        cost = sym (nothing_beside task.net task.rows (task.base ++ []) x.0 task.penalty);
      }

  pub plan_is_one_part : IsTruePlanByParts task (in_one_part task.net plan)
  plan_is_one_part =
      let part : Part = record { share = all_terms task.net; tree = map part_node plan.tree; bound = plan.bound } in
      record {
        choices = p.choices;
        differ = p.differ;
        cost = p.cost;
        parts = All-cons (IsTruePart task) part [] is_part (All-nil (IsTruePart task));
        apart = alone_is_apart (all_terms task.net);
        rest = no_rest;
        bound =
            let e = sum_by-cons (λ (q : Part). q.bound) part [] in
            omega (arith, e);
        mark = marked_so plan.bound plan.cost;
        size =
            let e = sum_by-cons (λ (q : Part). length q.tree) part [] in
            let f = length-map plan.tree part_node in
            let g = p.size in
            omega (arith, e, f, g);
      }

pub one_part_will_do : OnePartWillDo
one_part_will_do = record {
  plan = λ task plan is p. plan_is_one_part task is plan p;
  marked = λ task plan is p m. (marked_so plan.bound plan.cost).1 (optimal_is task is plan p m).1;
  enough = λ task plan is p h. (marked_so plan.bound plan.cost).1 (optimal_is task is plan p (enough_is_optimal task is plan p h)).1;
}
