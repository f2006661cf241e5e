-- What stands in a tree of which every node is settled makes a true plan.
use Rattle.std.proofs.Common.{◌≡◌, ℕ, ◌+◌, ◌<◌, ◌≤◌, Bool, true, false, cond, List, [], ◌∷◌, ◌++◌, length, map, refl, sym, ap, subst, ◌∙◌, ◌⊎◌, inl, inr, arith, Some, None, append-nil, leb}
use Rattle.std.proofs.lemmas.List.{length-map}
use Rattle.std.specs.Prelude.{Contains, Option, min, ◌↔◌, if◌then◌else◌}
use Rattle.std.specs.List.{list_any}
use Rattle.std.proofs.lemmas.Bool.{leb-true, leb-false, cases_lt, both_ways, or_left, or_right}
use Rattle.std.proofs.lemmas.List.Elements.{Contains-append_left, Contains-append_right, Contains-append_cases}
use Rattle.dm_rows.specs.declared.messages.Decision.{Decision}
use Rattle.dm_rows.specs.Rows.{RowsValue}
use Rattle.dm_rows.specs.Decide.{with_decisions}
use Rattle.dm_tree.specs.declared.forms.Leaf.{Leaf}
use Rattle.dm_tree.specs.declared.forms.Mark.TheVariants.{Optimal, Open as OpenMark}
use Rattle.dm_tree.specs.declared.forms.Node.{Node}
use Rattle.dm_tree.specs.declared.forms.Node.TheVariants.{Inner, Cycle, Bound, Open, Hole}
use Rattle.dm_tree.specs.declared.plans.Plan.{Plan}
use Rattle.dm_tree.specs.Trees.{Shape, leaf, branch, preorder, IsProper, IsWhole, StandsAt, choice_in}
use Rattle.dm_rows.specs.Sides.{first_decision, second_decision}
use Rattle.dm_tree.specs.Plans.{Task, IsTrueInner, IsTrueCycle, IsTrueBound, IsTrueOpen, IsLeastOfLeaves, HasNoOpen, IsTruePlan}
use Rattle.dm_tree.specs.Inside.Filling.{visits}
use Rattle.dm_tree.specs.Inside.Assembling.{seen}
use Rattle.dm_tree.proofs.Standing.{visits_below, visits_filled, stands_among}
use Rattle.dm_paths.proofs.Setting.{in_front, differs_in_none, differs_with, locks_of}
use Rattle.dm_traverse.specs.Finish.{IsKnown}
use Rattle.dm_traverse.specs.Laws.{IsTask}
use Rattle.dm_traverse.specs.Inside.Ending.{closed, carried, least_with, bound_of, is_open, mark_of, IsPlanOf}
use Rattle.dm_traverse.specs.Inside.Searching.{IsUsedUp, Stands}
use Rattle.dm_traverse.proofs.Leaves.{Fact, HasLowLeaf, has_low_leaf, from_map, violated_is_undecided}
use Rattle.dm_traverse.proofs.Optimal.{allowed_there, chosen, has_base}
use Rattle.dm_tree.proofs.Growing.{station, leaf_visit}

-- what a true plan of this cost asks of a node
abbrev IsFinal : Task → ℕ → List Decision → Node → Type 0
IsFinal task cost path (Inner c) = IsTrueInner task path c
IsFinal task cost path Cycle = IsTrueCycle task path
IsFinal task cost path (Bound c) = IsTrueBound task cost path c
IsFinal task cost path (Open c) = IsTrueOpen task cost path c
IsFinal task cost path Hole = Unit {0}

final : (task : Task) (cost : ℕ) (path : List Decision) (n : Node) → IsKnown task cost path n → IsFinal task cost path (closed cost n)
final task cost path (Inner c) k = k
final task cost path Cycle k = k
final task cost path (Bound c) k = k
final task cost path (Open c) k = by_cost (leb cost c) refl
  where
    by_cost : (t : Bool) → leb cost c ≡ t → IsFinal task cost path (cond t (Bound c) (Open c))
    by_cost true is =
        let v = k.1 in
        record { cost = record { times = v.times; least = v.least; cost = v.cost }; no_less = leb-true cost c is }
    by_cost false is = record { choice = k.0; violated = k.1; less = leb-false cost c is }
final task cost path Hole k = tt

-- closing keeps each place
abbrev pub reseated : ℕ → Leaf → Leaf
reseated best l = station l.path (closed best l.node)

closed_is_leaf : (best c : ℕ) → choice_in (closed best (Open c)) ≡ None
closed_is_leaf best c = by_cost (leb best c)
  where
    by_cost : (t : Bool) → choice_in (cond t (Bound c) (Open c)) ≡ None
    by_cost true = refl
    by_cost false = refl

pub closed_visits : (best : ℕ) (due : List (List Decision)) (nodes : List Node) →
    visits due (map (closed best) nodes) ≡ map (reseated best) (visits due nodes)
closed_visits best [] [] = refl
closed_visits best (p ∷ due) [] = refl
closed_visits best [] (n ∷ ns) = refl
closed_visits best (p ∷ due) (Inner c ∷ ns) =
    ap (λ xs. station p (Inner c) ∷ xs) (closed_visits best ((p ++ first_decision c ∷ []) ∷ (p ++ second_decision c ∷ []) ∷ due) ns)
closed_visits best (p ∷ due) (Cycle ∷ ns) = ap (λ xs. station p Cycle ∷ xs) (closed_visits best due ns)
closed_visits best (p ∷ due) (Bound c ∷ ns) = ap (λ xs. station p (Bound c) ∷ xs) (closed_visits best due ns)
closed_visits best (p ∷ due) (Open c ∷ ns) =
    leaf_visit p due (closed best (Open c)) (map (closed best) ns) (closed_is_leaf best c)
    ∙ ap (λ xs. station p (closed best (Open c)) ∷ xs) (closed_visits best due ns)
closed_visits best (p ∷ due) (Hole ∷ ns) = ap (λ xs. station p Hole ∷ xs) (closed_visits best due ns)

-- what stands in a tree is among its nodes, and all nodes stand there
pub stands_in : (t : Shape) (path : List Decision) (n : Node) → StandsAt t path n → Contains (preorder t) n
stands_in (leaf m) [] n s = (0, omega arith, s)
stands_in (leaf m) (d ∷ path) n s = elim s [ ]
stands_in (branch c a b) [] n s = (0, omega arith, s)
stands_in (branch c a b) (d ∷ path) n (inl s) =
    Contains-append_right (Inner c ∷ []) (preorder a ++ preorder b) n (Contains-append_left (preorder a) (preorder b) n (stands_in a path n s.1))
stands_in (branch c a b) (d ∷ path) n (inr s) =
    Contains-append_right (Inner c ∷ []) (preorder a ++ preorder b) n (Contains-append_right (preorder a) (preorder b) n (stands_in b path n s.1))

pub stands_somewhere : (t : Shape) (n : Node) → Contains (preorder t) n → (path : List Decision) × StandsAt t path n
stands_somewhere (leaf m) n h = elim (in_front m n [] h) [ inl e ↦ ([], e) | inr r ↦ absurd (omega (arith, r.1)) ]
stands_somewhere (branch c a b) n h =
    elim (in_front (Inner c) n (preorder a ++ preorder b) h) [
      | inl e ↦ ([], e)
      | inr r ↦ elim (Contains-append_cases (preorder a) (preorder b) n r) [
        | inl s ↦ let q = stands_somewhere a n s in (first_decision c ∷ q.0, inl (refl, q.1))
        | inr s ↦ let q = stands_somewhere b n s in (second_decision c ∷ q.0, inr (refl, q.1))
      ]
    ]

-- the bound of some nodes is that of the best choices or is carried, and no node carries less
record IsLeastCarried (best : ℕ) (nodes : List Node) (bound : ℕ) : Type 0 where
  reached : (bound ≡ best) ⊎ ((n : Node) × Contains nodes n × (carried n ≡ Some bound))
  below_best : bound ≤ best
  below : (n : Node) (c : ℕ) → Contains nodes n → carried n ≡ Some c → bound ≤ c

nothing_carried : (best : ℕ) → IsLeastCarried best [] best
nothing_carried best = record { reached = inl refl; below_best = omega arith; below = λ n c h e. absurd (omega (arith, h.1)) }

-- one node in front of the others
one_carried : (best : ℕ) (m : Node) (nodes : List Node) (bound : ℕ) (o : Option ℕ) → carried m ≡ o → IsLeastCarried (least_with best o) nodes bound →
    IsLeastCarried best (m ∷ nodes) bound
one_carried best m nodes bound None is k =
    record {
      reached = elim k.reached [ inl e ↦ inl e | inr r ↦ inr (r.0, Contains-append_right (m ∷ []) nodes r.0 r.1, r.2) ];
      below_best = k.below_best;
      below = λ n c h e. elim (in_front m n nodes h) [ inl same ↦ (let clash : carried n ≡ None = ap carried (sym same) ∙ is in cc) | inr r ↦ k.below n c r e ];
    }
one_carried best m nodes bound (Some x) is k =
    let low : bound ≤ min best x = k.below_best in
    record {
      reached = elim k.reached [
        | inl e ↦ (elim (least_of best x) [
          | inl f ↦ inl (e ∙ f)
          | inr f ↦ inr (m, (let front : Contains (m ∷ nodes) m = (0, omega arith, refl) in front), is ∙ ap Some (sym (e ∙ f)))
        ])
        | inr r ↦ inr (r.0, Contains-append_right (m ∷ []) nodes r.0 r.1, r.2)
      ];
      below_best = omega arith;
      below = λ n c h e.
          elim (in_front m n nodes h) [
            | inl same ↦ (let both : Some x ≡ Some c = sym is ∙ (ap carried same ∙ e) in let at : x ≡ c = cc in omega arith)
            | inr r ↦ k.below n c r e
          ];
    }
  where
    least_of : (a b : ℕ) → (min a b ≡ a) ⊎ (min a b ≡ b)
    least_of a b = elim (cases_lt a b) [ inl le ↦ inl (omega arith) | inr lt ↦ inr (omega arith) ]

least_carried : (best : ℕ) (nodes : List Node) → IsLeastCarried best nodes (bound_of best nodes)
least_carried best [] = nothing_carried best
least_carried best (m ∷ nodes) =
    one_carried best m nodes (bound_of best (m ∷ nodes)) (carried m) refl (least_carried (least_with best (carried m)) nodes)

-- some node is open exactly where the test says so
some_open : (nodes : List Node) → list_any is_open nodes ≡ true → (c : ℕ) × Contains nodes (Open c)
some_open [] h = cc
some_open (Inner k ∷ nodes) h = let r = some_open nodes h in (r.0, Contains-append_right (Inner k ∷ []) nodes (Open r.0) r.1)
some_open (Cycle ∷ nodes) h = let r = some_open nodes h in (r.0, Contains-append_right (Cycle ∷ []) nodes (Open r.0) r.1)
some_open (Bound k ∷ nodes) h = let r = some_open nodes h in (r.0, Contains-append_right (Bound k ∷ []) nodes (Open r.0) r.1)
some_open (Open k ∷ nodes) h = (k, (let front : Contains (Open k ∷ nodes) (Open k) = (0, omega arith, refl) in front))
some_open (Hole ∷ nodes) h = let r = some_open nodes h in (r.0, Contains-append_right (Hole ∷ []) nodes (Open r.0) r.1)

open_is_seen : (nodes : List Node) (c : ℕ) → Contains nodes (Open c) → list_any is_open nodes ≡ true
open_is_seen [] c h = absurd (omega (arith, h.1))
open_is_seen (m ∷ nodes) c h =
    elim (in_front m (Open c) nodes h) [
      | inl e ↦ or_left (is_open m) (list_any is_open nodes) (ap is_open e)
      | inr r ↦ or_right (is_open m) (list_any is_open nodes) (open_is_seen nodes c r)
    ]

-- an open leaf was open before
was_open : (best c : ℕ) (n : Node) → closed best n ≡ Open c → n ≡ Open c
was_open best c (Inner k) e = cc
was_open best c Cycle e = cc
was_open best c (Bound k) e = cc
was_open best c (Open k) e = by_cost (leb best k) e
  where
    by_cost : (t : Bool) → cond t (Bound k) (Open k) ≡ Open c → Open k ≡ Open c
    by_cost true e = cc
    by_cost false e = e
was_open best c Hole e = cc

module _ (task : Task) (is : IsTask task) (nodes : List Node) (cost limit : ℕ) (best : List Decision) (stands : Stands task nodes best cost)
    (used : (c : ℕ) → Contains nodes (Open c) → IsUsedUp task.budget (length nodes) limit c) (low : cost ≤ limit)
    (shape : Shape) (in_preorder : preorder shape ≡ map (closed cost) nodes) (proper : IsProper shape) (whole : IsWhole shape) where
  -- every node is as a true plan asks
  final_at : (q : List Decision) (m : Node) → StandsAt shape q m → IsFinal task cost q m
  final_at q m s =
      let all : visits ([] ∷ []) (preorder shape) ≡ visits_below [] shape =
      subst (λ ns. visits ([] ∷ []) ns ≡ visits_below [] shape) (append-nil (preorder shape))
      (visits_filled [] [] shape [] proper ∙ append-nil (visits_below [] shape)) in
      let among : Contains (visits_below [] shape) (station q m) = stands_among [] shape q m s in
      let there : Contains (map (reseated cost) (seen nodes)) (station q m) =
      subst (λ xs. Contains xs (station q m))
      (sym all ∙ (ap (visits ([] ∷ [])) in_preorder ∙ closed_visits cost ([] ∷ []) nodes)) among in
      let from = from_map (reseated cost) (seen nodes) (station q m) there in
      subst (λ (l : Leaf). IsFinal task cost l.path l.node) from.2 (final task cost from.0.path from.0.node (stands.known from.0 from.1))

  fact_at : (q : List Decision) (n : Node) → IsFinal task cost q n → Fact task (task.base ++ q) n
  fact_at q (Inner c) inner =
      (violated_is_undecided task.net task.rows (task.base ++ q) inner.violated.times c inner.violated.violated, inner.allowed)
  fact_at q Cycle c = (c.cycle, c.is_cycle)
  fact_at q (Bound k) b = b.cost
  fact_at q (Open k) o =
      let v = o.violated in
      let undecided = violated_is_undecided task.net task.rows (task.base ++ q) v.times o.choice v.violated in (
        record { times = v.times; least = v.least; cost = v.cost },
        (o.choice, undecided, allowed_there task is q o.choice undecided),
      )
  fact_at q Hole h = tt

  low_leaf : HasLowLeaf shape cost
  low_leaf =
      let r : RowsValue = with_decisions task.net task.rows best in
      let are = stands.are_best in
      let list = chosen task is best are.choices in
      has_low_leaf task is.network is.sized r (differs_with task.net task.rows task.rows best (differs_in_none task.rows))
      (locks_of task.net is.network task.rows is.sized best list.0.free) are.costs.no_cycle cost are.costs.cost
      shape task.base proper whole (λ q n s. fact_at q n (final_at q n s)) is.base (has_base task is best list.0 list.1)

  -- what a leaf carries stands there
  carried_stands : (bound : ℕ) (p : List Decision) (n : Node) → carried n ≡ Some bound → StandsAt shape p n →
      StandsAt shape p (Bound bound) ⊎ StandsAt shape p (Open bound)
  carried_stands bound p (Inner c) e s = cc
  carried_stands bound p Cycle e s = cc
  carried_stands bound p (Bound c) e s = let same : c ≡ bound = cc in inl (subst (λ k. StandsAt shape p (Bound k)) same s)
  carried_stands bound p (Open c) e s = let same : c ≡ bound = cc in inr (subst (λ k. StandsAt shape p (Open k)) same s)
  carried_stands bound p Hole e s = cc

  least_of_leaves : (bound : ℕ) → IsLeastCarried cost (preorder shape) bound → IsLeastOfLeaves shape bound
  least_of_leaves bound k =
      let below_bounds : (p : List Decision) (c : ℕ) → StandsAt shape p (Bound c) → bound ≤ c =
      λ p c s. k.below (Bound c) c (stands_in shape p (Bound c) s) refl in
      let below_opens : (p : List Decision) (c : ℕ) → StandsAt shape p (Open c) → bound ≤ c =
      λ p c s. k.below (Open c) c (stands_in shape p (Open c) s) refl in
      elim k.reached [
        | inl e ↦
            let low = low_leaf in
            let le = low.low in
            let least : bound ≤ low.cost = elim low.stands [ inl s ↦ below_bounds low.path low.cost s | inr s ↦ below_opens low.path low.cost s ] in
            let same : low.cost ≡ bound = omega arith in
            record {
              path = low.path;
              reached = subst (λ c. StandsAt shape low.path (Bound c) ⊎ StandsAt shape low.path (Open c)) same low.stands;
              below_bounds = below_bounds;
              below_opens = below_opens;
            }
        | inr r ↦
            let there = stands_somewhere shape r.0 r.1 in
            record {
              path = there.0;
              reached = carried_stands bound there.0 r.0 r.2 there.1;
              below_bounds = below_bounds;
              below_opens = below_opens;
            }
      ]

  none_open : list_any is_open (preorder shape) ≡ false → HasNoOpen shape
  none_open isnt p c s = both_ways (list_any is_open (preorder shape)) isnt (open_is_seen (preorder shape) c (stands_in shape p (Open c) s))

  -- where a leaf is open two further nodes would not do
  used_up : list_any is_open (preorder shape) ≡ true → task.budget < length (preorder shape) + 2
  used_up is_so =
      let o = some_open (preorder shape) is_so in
      let at = stands_somewhere shape (Open o.0) o.1 in
      let less = (final_at at.0 (Open o.0) at.1).less in
      let there : Contains (map (closed cost) nodes) (Open o.0) = subst (λ ns. Contains ns (Open o.0)) in_preorder o.1 in
      let from = from_map (closed cost) nodes (Open o.0) there in
      let was : Contains nodes (Open o.0) = subst (Contains nodes) (was_open cost o.0 from.0 from.2) from.1 in
      let size : length (preorder shape) ≡ length nodes = ap length in_preorder ∙ length-map nodes (closed cost) in
      elim (used o.0 was) [ inl full ↦ omega (arith, full, size) | inr dear ↦ absurd (omega (arith, dear, less, low)) ]

  marked_optimal : (b : Bool) → list_any is_open (preorder shape) ≡ b → ((if b then OpenMark else Optimal) ≡ Optimal) ↔ HasNoOpen shape
  marked_optimal true is_so =
      let o = some_open (preorder shape) is_so in
      let there = stands_somewhere shape (Open o.0) o.1 in (λ e. cc, λ none. absurd (none there.0 o.0 there.1))
  marked_optimal false isnt = (λ e. none_open isnt, λ none. refl)

  marked_open : (b : Bool) → list_any is_open (preorder shape) ≡ b → (if b then OpenMark else Optimal) ≡ OpenMark → task.budget < length (preorder shape) + 2
  marked_open true is_so e = used_up is_so
  marked_open false isnt e = cc

pub plan_is_true : (task : Task) → IsTask task → (entry : ℕ) (nodes : List Node) (cost limit : ℕ) (best : List Decision) (plan : Plan) →
    Stands task nodes best cost → ((c : ℕ) → Contains nodes (Open c) → IsUsedUp task.budget (length nodes) limit c) → cost ≤ limit →
    IsPlanOf entry nodes best cost plan → IsTruePlan task plan
plan_is_true task is entry nodes cost limit best plan stands used low of =
    let t = of.whole in
    let are = stands.are_best in
    let at : preorder t.shape ≡ map (closed cost) nodes = t.in_preorder ∙ of.of_nodes in
    let final = final_at task is nodes cost limit best stands used low t.shape at t.proper t.whole in
    let bound : plan.bound ≡ bound_of cost (preorder t.shape) = of.bounded ∙ ap (bound_of cost) (sym t.in_preorder) in
    let mark : plan.mark ≡ mark_of (preorder t.shape) = of.marked ∙ ap mark_of (sym t.in_preorder) in
    let b : Bool = list_any is_open (preorder t.shape) in
    let optimal = marked_optimal task is nodes cost limit best stands used low t.shape at t.proper t.whole b refl in
    record {
      choices = rw of.with_choices are.choices;
      differ = rw of.with_choices are.differ;
      cost = rw (of.with_choices, of.of_cost) are.costs;
      shape = t.shape;
      in_preorder = t.in_preorder;
      proper = t.proper;
      whole = t.whole;
      inners = λ p c s. final p (Inner c) s;
      cycles = λ p s. final p Cycle s;
      bounds = λ p c s. rw of.of_cost (final p (Bound c) s);
      opens = λ p c s. rw of.of_cost (final p (Open c) s);
      bound = rw bound
          (least_of_leaves task is nodes cost limit best stands used low t.shape at t.proper t.whole (bound_of cost (preorder t.shape))
          (least_carried cost (preorder t.shape)));
      mark = (λ e. optimal.0 (sym mark ∙ e), λ none. mark ∙ optimal.1 none);
      size =
          let few = stands.few in
          let size : length plan.tree ≡ length nodes = ap length of.of_nodes ∙ length-map nodes (closed cost) in
          omega (arith, few, size);
      used = λ e.
          let used = marked_open task is nodes cost limit best stands used low t.shape at t.proper t.whole b refl (sym mark ∙ e) in
          let size : length (preorder t.shape) ≡ length plan.tree = ap length t.in_preorder in
          omega (arith, used, size);
    }
