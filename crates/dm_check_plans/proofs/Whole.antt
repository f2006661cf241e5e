-- A plan is true exactly where its parts are.
use Rattle.std.proofs.Common.{◌≡◌, ℕ, zero, suc, ◌+◌, ◌<◌, ◌≤◌, Bool, true, false, List, [], ◌∷◌, ◌++◌, length, get_or, refl, sym, ap, subst, ◌∙◌, ◌⊎◌, inl, inr, ltb, eqb-true, eq-eqb, ltb-true, lt-ltb, append-nil, arith}
use Rattle.std.specs.Prelude.{◌↔◌, All, Contains}
use Rattle.std.proofs.lemmas.Bool.{cases_Bool, cases_lt, both_ways, false_from_ne_true}
use Rattle.std.proofs.lemmas.List.{get_or_default}
use Rattle.std.proofs.lemmas.List.Elements.{All-contains, Contains-get_or, Contains-append_left, Contains-append_right, Contains-append_cases}
use Rattle.dm_rows.specs.declared.messages.Decision.{Decision}
use Rattle.dm_tree.specs.declared.forms.Node.{Node}
use Rattle.dm_tree.specs.declared.forms.Node.TheVariants.{Inner, Cycle, Bound, Open, Hole}
use Rattle.dm_tree.specs.declared.forms.Leaf.{Leaf}
use Rattle.dm_tree.specs.declared.forms.Mark.{Mark}
use Rattle.dm_tree.specs.declared.forms.Mark.TheVariants.{Optimal, Open as OpenMark}
use Rattle.dm_tree.specs.declared.plans.Plan.{Plan}
use Rattle.dm_tree.specs.Plans.{Task, IsTruePlan, IsLeastOfLeaves, HasNoOpen}
use Rattle.dm_rows.specs.Sides.{first_decision, second_decision}
use Rattle.dm_tree.specs.Trees.{Shape, leaf, branch, preorder, IsProper, IsWhole, IsTree, StandsAt}
use Rattle.dm_tree.specs.Inside.Filling.{visits}
use Rattle.dm_tree.proofs.Standing.{visits_below, visits_filled, stands_among, among_stands}
use Rattle.dm_check_rows.specs.Claims.{Tells}
use Rattle.dm_check_plans.specs.Inside.Leaves.{is_open, is_at, is_below, node_at, SomeNode, NoneNode}
use Rattle.dm_check_plans.specs.Choosing.{AreTrueChoices}
use Rattle.dm_check_plans.specs.Visiting.{HoldsOfAll}
use Rattle.dm_check_plans.specs.Inside.Visiting.{IsTrueNode, AreTrueNodes, IsMarked, IsToldOf}
use Rattle.dm_paths.proofs.Setting.{in_front}

-- ---- nodes in preorder, and what stands at paths

record StandsSomewhere (t : Shape) (n : Node) : Type 0 where
  path : List Decision
  stands : StandsAt t path n

preorder_stands : (t : Shape) (n : Node) → Contains (preorder t) n → StandsSomewhere t n
preorder_stands (leaf x) n h =
    elim (in_front x n [] h) [
      | inl e ↦ record { path = []; stands = e }
      | inr later ↦ absurd (omega (arith, later.1))
    ]
preorder_stands (branch c a b) n h =
    elim (in_front (Inner c) n (preorder a ++ preorder b) h) [
      | inl e ↦ record { path = []; stands = e }
      | inr later ↦ elim (Contains-append_cases (preorder a) (preorder b) n later) [
        | inl l ↦ let s = preorder_stands a n l in record { path = first_decision c ∷ s.path; stands = inl (refl, s.stands) }
        | inr r ↦ let s = preorder_stands b n r in record { path = second_decision c ∷ s.path; stands = inr (refl, s.stands) }
      ]
    ]

stands_preorder : (t : Shape) (path : List Decision) (n : Node) → StandsAt t path n → Contains (preorder t) n
stands_preorder (leaf x) [] n s = (0, omega arith, s)
stands_preorder (leaf x) (d ∷ path) n s = absurd s
stands_preorder (branch c a b) [] n s = (0, omega arith, s)
stands_preorder (branch c a b) (d ∷ path) n (inl s) =
    Contains-append_right (Inner c ∷ []) (preorder a ++ preorder b) n (Contains-append_left (preorder a) (preorder b) n (stands_preorder a path n s.1))
stands_preorder (branch c a b) (d ∷ path) n (inr s) =
    Contains-append_right (Inner c ∷ []) (preorder a ++ preorder b) n (Contains-append_right (preorder a) (preorder b) n (stands_preorder b path n s.1))

no_hole : (t : Shape) (path : List Decision) → IsWhole t → StandsAt t path Hole → ⊥
no_hole (leaf (Inner c)) [] w s = cc
no_hole (leaf Cycle) [] w s = cc
no_hole (leaf (Bound c)) [] w s = cc
no_hole (leaf (Open c)) [] w s = cc
no_hole (leaf Hole) [] w s = w
no_hole (leaf x) (d ∷ path) w s = s
no_hole (branch c a b) [] w s = cc
no_hole (branch c a b) (d ∷ path) w (inl s) = no_hole a path w.0 s.1
no_hole (branch c a b) (d ∷ path) w (inr s) = no_hole b path w.1 s.1

at_bound : (bound : ℕ) (n : Node) → is_at bound n ≡ true → (n ≡ Bound bound) ⊎ (n ≡ Open bound)
at_bound bound (Inner c) h = cc
at_bound bound Cycle h = cc
at_bound bound (Bound c) h = inl (ap (λ k. Bound k) (eqb-true c bound h))
at_bound bound (Open c) h = inr (ap (λ k. Open k) (eqb-true c bound h))
at_bound bound Hole h = cc

record IsOpenNode (n : Node) : Type 0 where
  cost : ℕ
  is : n ≡ Open cost

open_node : (n : Node) → is_open n ≡ true → IsOpenNode n
open_node (Inner c) h = cc
open_node Cycle h = cc
open_node (Bound c) h = cc
open_node (Open c) h = record { cost = c; is = refl }
open_node Hole h = cc

not_below : (bound c : ℕ) → ltb c bound ≡ false → bound ≤ c
not_below bound c h = elim (cases_lt c bound) [
  | inl lt ↦ absurd (both_ways (ltb c bound) h (lt-ltb c bound lt))
  | inr le ↦ le
]

next_none : (n : Node) (ns : List Node) → is_open n ≡ false → NoneNode is_open ns (length ns) → NoneNode is_open (n ∷ ns) (length (n ∷ ns))
next_none n ns here none zero lt = here
next_none n ns here none (suc k) lt = none k (omega arith)

some_or_none : (ns : List Node) → SomeNode is_open ns ⊎ NoneNode is_open ns (length ns)
some_or_none [] = inr (λ k lt. absurd (omega arith))
some_or_none (n ∷ ns) = elim (cases_Bool (is_open n)) [
  | inl here ↦ inl (record { place = 0; within = omega arith; meets = here })
  | inr not_here ↦ elim (some_or_none ns) [
    | inl some ↦ let w = some.within in inl (record { place = suc some.place; within = omega (arith, w); meets = some.meets })
    | inr none ↦ inr (next_none n ns not_here none)
  ]
]

-- ---- one tree

module _ (nodes : List Node) (shape : Shape) (in_preorder : preorder shape ≡ nodes) (proper : IsProper shape) where
  visits_are : visits ([] ∷ []) nodes ≡ visits_below [] shape
  visits_are =
      ap (visits ([] ∷ [])) (sym in_preorder ∙ sym (append-nil (preorder shape))) ∙ visits_filled [] [] shape [] proper ∙ append-nil (visits_below [] shape)

  pub placed : (path : List Decision) (n : Node) → StandsAt shape path n → Contains nodes n
  placed path n s = subst (λ (ns : List Node). Contains ns n) in_preorder (stands_preorder shape path n s)

  somewhere : (n : Node) → Contains nodes n → StandsSomewhere shape n
  somewhere n h = preorder_stands shape n (subst (λ (ns : List Node). Contains ns n) (sym in_preorder) h)

  there : (k : ℕ) → k < length nodes → StandsSomewhere shape (node_at nodes k)
  there k lt = somewhere (node_at nodes k) (Contains-get_or nodes k Hole lt)

  test_there : (test : Node → Bool) (path : List Decision) (n : Node) → StandsAt shape path n → (k : ℕ) × (k < length nodes) × (test (node_at nodes k) ≡ test n)
  test_there test path n s = let h = placed path n s in (h.0, h.1, ap test (get_or_default nodes h.0 Hole n h.1 ∙ h.2))

  none_there : (test : Node → Bool) → NoneNode test nodes (length nodes) → (path : List Decision) (n : Node) → StandsAt shape path n → test n ≡ false
  none_there test none path n s = let h = test_there test path n s in sym h.2 ∙ none h.0 h.1

  some_there : (test : Node → Bool) (path : List Decision) (n : Node) → StandsAt shape path n → test n ≡ true → SomeNode test nodes
  some_there test path n s meets = let h = test_there test path n s in record { place = h.0; within = h.1; meets = h.2 ∙ meets }

  module _ (P : List Decision → Node → Type 0) where
    pub node_true : HoldsOfAll P ([] ∷ []) nodes → (path : List Decision) (n : Node) → StandsAt shape path n → P path n
    node_true all path n s =
        All-contains (λ l. P l.path l.node) (visits_below [] shape) (record { path = path; node = n })
        (subst (All (λ (l : Leaf). P l.path l.node)) visits_are all) (stands_among [] shape path n s)

    pub nodes_true : ((path : List Decision) (n : Node) → StandsAt shape path n → P path n) → HoldsOfAll P ([] ∷ []) nodes
    nodes_true each k d lt =
        let l : Leaf = get_or (visits ([] ∷ []) nodes) k d in
        let c : Contains (visits_below [] shape) l = subst (λ (ls : List Leaf). Contains ls l) visits_are (Contains-get_or (visits ([] ∷ []) nodes) k d lt) in
        let s = among_stands [] shape l c in
        subst (λ (p : List Decision). P p l.node) (sym s.is) (each s.rest l.node s.stands)

  -- ---- the bound and the mark

  module _ (bound budget : ℕ) where
    pub least_bound : SomeNode (is_at bound) nodes → NoneNode (is_below bound) nodes (length nodes) → IsLeastOfLeaves shape bound
    least_bound some none =
        let s = there some.place some.within in
        record {
          path = s.path;
          reached = elim (at_bound bound (node_at nodes some.place) some.meets) [
            | inl e ↦ inl (subst (λ n. StandsAt shape s.path n) e s.stands)
            | inr e ↦ inr (subst (λ n. StandsAt shape s.path n) e s.stands)
          ];
          below_bounds = λ p c st. not_below bound c (none_there (is_below bound) none p (Bound c) st);
          below_opens = λ p c st. not_below bound c (none_there (is_below bound) none p (Open c) st);
        }

    pub bound_reached : IsLeastOfLeaves shape bound → SomeNode (is_at bound) nodes
    bound_reached least = elim least.reached [
      | inl s ↦ some_there (is_at bound) least.path (Bound bound) s (eq-eqb bound bound refl)
      | inr s ↦ some_there (is_at bound) least.path (Open bound) s (eq-eqb bound bound refl)
    ]

    pub none_below : IsLeastOfLeaves shape bound → NoneNode (is_below bound) nodes (length nodes)
    none_below least k lt = let s = there k lt in no_less (node_at nodes k) s.path s.stands
      where
        no_less : (n : Node) (path : List Decision) → StandsAt shape path n → is_below bound n ≡ false
        no_less (Inner c) path s = refl
        no_less Cycle path s = refl
        no_less (Bound c) path s = false_from_ne_true (ltb c bound) (λ h. let lt = ltb-true c bound h in let le = least.below_bounds path c s in omega arith)
        no_less (Open c) path s = false_from_ne_true (ltb c bound) (λ h. let lt = ltb-true c bound h in let le = least.below_opens path c s in omega arith)
        no_less Hole path s = refl

    pub mark_is : (m : Mark) → IsMarked nodes m budget → (m ≡ Optimal) ↔ HasNoOpen shape
    mark_is Optimal none = (λ e path c s. both_ways (is_open (Open c)) (none_there is_open none path (Open c) s) refl, λ h. refl)
    mark_is OpenMark some = (
      λ e. cc,
      λ h. let s = there some.0.place some.0.within in
          let o = open_node (node_at nodes some.0.place) some.0.meets in
          absurd (h s.path o.cost (subst (λ n. StandsAt shape s.path n) o.is s.stands)),
    )

    pub budget_used : (m : Mark) → IsMarked nodes m budget → m ≡ OpenMark → budget < length nodes + 2
    budget_used Optimal none e = cc
    budget_used OpenMark some e = some.1

    pub is_marked : (m : Mark) → (m ≡ Optimal) ↔ HasNoOpen shape → (m ≡ OpenMark → budget < length nodes + 2) → IsMarked nodes m budget
    is_marked Optimal exactly used = λ k lt.
        let s = there k lt in
        false_from_ne_true (is_open (node_at nodes k))
        (λ h. let o = open_node (node_at nodes k) h in exactly.0 refl s.path o.cost (subst (λ n. StandsAt shape s.path n) o.is s.stands))
    is_marked OpenMark exactly used = (
      elim (some_or_none nodes) [
        | inl some ↦ some
        | inr none ↦ let e : OpenMark ≡ Optimal = exactly.1 (λ path c s. both_ways (is_open (Open c)) (none_there is_open none path (Open c) s) refl) in cc
      ],
      used refl,
    )

-- ---- whole plans

module _ (task : Task) (plan : Plan) where
  pub whole_plan : IsTree plan.tree → AreTrueChoices task plan.choices plan.cost → AreTrueNodes task plan.cost ([] ∷ []) plan.tree →
      IsToldOf plan.tree plan.bound plan.mark task.budget → IsTruePlan task plan
  whole_plan tree choices all told =
      let each : (path : List Decision) (n : Node) → StandsAt tree.shape path n → IsTrueNode task plan.cost path n =
      node_true plan.tree tree.shape tree.in_preorder tree.proper (IsTrueNode task plan.cost) all in
      record {
        choices = choices.in_order;
        differ = choices.differ;
        cost = choices.costs;
        shape = tree.shape;
        in_preorder = tree.in_preorder;
        proper = tree.proper;
        whole = tree.whole;
        inners = λ path c s. each path (Inner c) s;
        cycles = λ path s. each path Cycle s;
        bounds = λ path c s. each path (Bound c) s;
        opens = λ path c s. each path (Open c) s;
        bound = least_bound plan.tree tree.shape tree.in_preorder tree.proper plan.bound task.budget told.least.reached told.least.below;
        mark = mark_is plan.tree tree.shape tree.in_preorder tree.proper plan.bound task.budget plan.mark told.marked;
        size = told.size;
        used = budget_used plan.tree tree.shape tree.in_preorder tree.proper plan.bound task.budget plan.mark told.marked;
      }

  pub its_choices : IsTruePlan task plan → AreTrueChoices task plan.choices plan.cost
  its_choices p = record { in_order = p.choices; differ = p.differ; costs = p.cost }

  pub its_nodes : IsTruePlan task plan → AreTrueNodes task plan.cost ([] ∷ []) plan.tree
  its_nodes p = nodes_true plan.tree p.shape p.in_preorder p.proper (IsTrueNode task plan.cost) each
    where
      each : (path : List Decision) (n : Node) → StandsAt p.shape path n → IsTrueNode task plan.cost path n
      each path (Inner c) s = p.inners path c s
      each path Cycle s = p.cycles path s
      each path (Bound c) s = p.bounds path c s
      each path (Open c) s = p.opens path c s
      each path Hole s = no_hole p.shape path p.whole s

  pub its_leaves : IsTruePlan task plan → IsToldOf plan.tree plan.bound plan.mark task.budget
  its_leaves p = record {
    least = record {
      reached = bound_reached plan.tree p.shape p.in_preorder p.proper plan.bound task.budget p.bound;
      below = none_below plan.tree p.shape p.in_preorder p.proper plan.bound task.budget p.bound;
    };
    marked = is_marked plan.tree p.shape p.in_preorder p.proper plan.bound task.budget plan.mark p.mark p.used;
    size = p.size;
  }

  -- what the nodes tell tells of the plan
  pub plan_told : IsTree plan.tree → AreTrueChoices task plan.choices plan.cost → IsToldOf plan.tree plan.bound plan.mark task.budget → (b : Bool) →
      Tells (AreTrueNodes task plan.cost ([] ∷ []) plan.tree) b → Tells (IsTruePlan task plan) b
  plan_told tree choices told true all = whole_plan tree choices all told
  plan_told tree choices told false wrong = λ p. wrong (its_nodes p)
