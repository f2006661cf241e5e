-- What the leaves that lie at a path ask for there.
use Rattle.std.proofs.Common.{◌≡◌, ℕ, ◌+◌, ◌-◌, ◌<◌, ◌≤◌, true, false, List, [], ◌∷◌, ◌++◌, length, get_or, refl, sym, ap, subst, ◌∙◌, ◌⊎◌, inl, inr, arith, Option, Some, None, slice_get, append-nil}
use Rattle.std.specs.Prelude.{unwrap_or}
use Rattle.std.proofs.lemmas.Bool.{cases_lt}
use Rattle.std.proofs.lemmas.List.{get_or-append_right, get_or_default}
use Rattle.std.proofs.lemmas.Option.{slice_get_within, get_or_from_slice_get}
use Rattle.dm_rows.specs.declared.messages.Choice.{Choice}
use Rattle.dm_rows.specs.declared.messages.Decision.{Decision}
use Rattle.dm_rows.specs.Decide.{choice_of}
use Rattle.dm_tree.specs.declared.forms.Node.{Node}
use Rattle.dm_tree.specs.declared.forms.Node.TheVariants.{Inner, Cycle, Bound, Open, Hole}
use Rattle.dm_tree.specs.declared.forms.Leaf.{Leaf}
use Rattle.dm_tree.specs.Trees.{Shape, choice_in, IsLeaf, IsProper, StandsAt, HasLeaves, HaveNoTree}
use Rattle.dm_rows.specs.Sides.{IsOrdered, is_ordered}
use Rattle.dm_tree.specs.Inside.Assembling.{LiesBelow, AsksFor, MayStand, IsAskedOf, Agree, IsAsked, LiesNone, SeenSoFar, IsDue}
use Rattle.dm_tree.specs.Pending.{IsFront}
use Rattle.dm_rows.proofs.Sides.{ordered_tells}
use Rattle.dm_tree.proofs.Standing.{one_stands, stands_above}

zero_left : (n : ℕ) → n - n ≡ 0
zero_left n = omega arith

-- the decision behind a front
pub goes_below : (path : List Decision) (l : Leaf) (d : Decision) → IsFront path l.path → length path < length l.path →
    d ≡ get_or l.path (length path) d → LiesBelow path (choice_of d) l
goes_below path l d f lt is = from_rest f.rest f.is
  where
    from_rest : (rest : List Decision) → l.path ≡ path ++ rest → LiesBelow path (choice_of d) l
    from_rest [] e = let n : length l.path ≡ length path = ap length (e ∙ append-nil path) in absurd (omega arith)
    from_rest (x ∷ rest) e =
        let at : get_or (path ++ x ∷ rest) (length path) d ≡ x =
        get_or-append_right path (x ∷ rest) (length path) (length path) d refl (omega arith)
        ∙ ap (λ k. get_or (x ∷ rest) k d) (zero_left (length path)) in
        let same : d ≡ x = is ∙ (ap (λ xs. get_or xs (length path) d) e ∙ at) in
        record { decision = x; rest = rest; is = e; decides = ap choice_of (sym same) }

-- a pair that is not written in order stands in no tree
pub asks_badly : (path : List Decision) (l : Leaf) (d : Decision) → IsFront path l.path → length path < length l.path →
    d ≡ get_or l.path (length path) d → is_ordered (choice_of d) ≡ false → IsAskedOf path l None
asks_badly path l d f lt is o shape proper leaf stands =
    let b = goes_below path l d f lt is in
    let s : StandsAt shape (path ++ b.decision ∷ b.rest) l.node = subst (λ p. StandsAt shape p l.node) b.is stands in
    let good : is_ordered (choice_of d) ≡ true =
    ordered_tells (choice_of d) (subst IsOrdered b.decides (stands_above shape path b.rest b.decision l.node proper s).1) in
    cc

no_leaf : (n : Node) (c : Choice) → choice_in n ≡ Some c → IsLeaf n → ⊥
no_leaf (Inner x) c e l = l
no_leaf Cycle c e l = cc
no_leaf (Bound x) c e l = cc
no_leaf (Open x) c e l = cc
no_leaf Hole c e l = cc

-- a given leaf stands in a tree that has the leaves
given_stands : (leaves : List Leaf) (shape : Shape) → HasLeaves shape leaves → (k : ℕ) (l : Leaf) → slice_get leaves k ≡ Some l →
    StandsAt shape l.path l.node × IsLeaf l.node
given_stands leaves shape has k l at =
    let e : get_or leaves k l ≡ l = get_or_from_slice_get leaves k l l at in
    let lt : k < length leaves = slice_get_within leaves k l at in (
      subst (λ (x : Leaf). StandsAt shape x.path x.node) e (has.stand k l lt),
      subst (λ (x : Leaf). IsLeaf x.node) e (has.are_leaves k l lt),
    )

-- what a leaf of a tree asks for stands in it
asked_stands : (shape : Shape) (path : List Decision) (n : Node) (l : Leaf) → IsProper shape → StandsAt shape l.path l.node →
    AsksFor path n l → StandsAt shape path n
asked_stands shape path (Inner c) l p s a =
    let up = stands_above shape path a.rest a.decision l.node p (subst (λ q. StandsAt shape q l.node) a.is s) in
    subst (λ x. StandsAt shape path (Inner x)) a.decides up.0
asked_stands shape path Cycle l p s a = subst (λ n. StandsAt shape path n) a.1 (subst (λ q. StandsAt shape q l.node) a.0 s)
asked_stands shape path (Bound c) l p s a = subst (λ n. StandsAt shape path n) a.1 (subst (λ q. StandsAt shape q l.node) a.0 s)
asked_stands shape path (Open c) l p s a = subst (λ n. StandsAt shape path n) a.1 (subst (λ q. StandsAt shape q l.node) a.0 s)
asked_stands shape path Hole l p s a = subst (λ n. StandsAt shape path n) a.1 (subst (λ q. StandsAt shape q l.node) a.0 s)

ends_at : (path : List Decision) (n : Node) (l : Leaf) → IsLeaf n → AsksFor path n l → l.path ≡ path
ends_at path (Inner c) l i a = absurd i
ends_at path Cycle l i a = a.0
ends_at path (Bound c) l i a = a.0
ends_at path (Open c) l i a = a.0
ends_at path Hole l i a = a.0

pub leaf_or_choice : (n : Node) → IsLeaf n ⊎ ((c : Choice) × (n ≡ Inner c))
leaf_or_choice (Inner c) = inr (c, refl)
leaf_or_choice Cycle = inl tt
leaf_or_choice (Bound c) = inl tt
leaf_or_choice (Open c) = inl tt
leaf_or_choice Hole = inl tt

-- two leaves that ask for different nodes, or for one leaf, stand in no tree
pub clash : (leaves : List Leaf) (path : List Decision) (i : ℕ) (l : Leaf) (m n : Node) → IsAsked leaves path i m →
    slice_get leaves i ≡ Some l → AsksFor path n l → (Agree m n → ⊥) → HaveNoTree leaves
clash leaves path i l m n seen here asks apart shape proper has =
    let one = given_stands leaves shape has seen.place seen.one seen.at in
    let two = given_stands leaves shape has i l here in
    let first : StandsAt shape path m = asked_stands shape path m seen.one proper one.0 seen.asks in
    let second : StandsAt shape path n = asked_stands shape path n l proper two.0 asks in
    let same : m ≡ n = one_stands shape path m n proper first second in
    elim (leaf_or_choice m) [
      | inl f ↦
          let p : seen.one.path ≡ path = ends_at path m seen.one f seen.asks in
          let q : l.path ≡ path = ends_at path n l (subst IsLeaf same f) asks in
          let e : seen.place ≡ i = has.once seen.place i seen.one l seen.at here (p ∙ sym q) in
          let b : seen.place < i = seen.before in
          omega arith
      | inr c ↦ apart (c.0, (ap choice_in c.1, ap choice_in (sym same ∙ c.1)))
    ]

the_last : (k i : ℕ) → k < i + 1 → i ≤ k → k ≡ i
the_last k i lt le = omega arith

-- a leaf that does not lie there changes nothing
pub seen_past : (leaves : List Leaf) (path : List Decision) (i : ℕ) (found : Option Node) → SeenSoFar leaves path i found →
    ((l : Leaf) → slice_get leaves i ≡ Some l → IsFront path l.path → ⊥) → SeenSoFar leaves path (i + 1) found
seen_past leaves path i None none not_here = λ k l lt here front.
    elim (cases_lt k i) [
      | inl b ↦ none k l b here front
      | inr q ↦ not_here l (subst (λ j. slice_get leaves j ≡ Some l) (the_last k i lt q) here) front
    ]
seen_past leaves path i (Some n) s not_here =
    record {
      place = s.place;
      before = (let b : s.place < i = s.before in omega arith);
      one = s.one;
      at = s.at;
      asks = s.asks;
      may_stand = s.may_stand;
      all = λ k l lt here front.
          elim (cases_lt k i) [
            | inl b ↦ s.all k l b here front
            | inr q ↦ absurd (not_here l (subst (λ j. slice_get leaves j ≡ Some l) (the_last k i lt q) here) front)
          ];
      sole = λ f k l lt here front.
          elim (cases_lt k i) [
            | inl b ↦ s.sole f k l b here front
            | inr q ↦ absurd (not_here l (subst (λ j. slice_get leaves j ≡ Some l) (the_last k i lt q) here) front)
          ];
    }

same_leaf : (leaves : List Leaf) (k i : ℕ) (l m : Leaf) → k ≡ i → slice_get leaves k ≡ Some l → slice_get leaves i ≡ Some m → m ≡ l
same_leaf leaves k i l m e a b =
    let s : Some m ≡ Some l = sym b ∙ (ap (slice_get leaves) (sym e) ∙ a) in cc

-- the first leaf that lies there
pub seen_first : (leaves : List Leaf) (path : List Decision) (i : ℕ) (l : Leaf) (n : Node) → LiesNone leaves path i →
    slice_get leaves i ≡ Some l → AsksFor path n l × MayStand n → IsAsked leaves path (i + 1) n
seen_first leaves path i l n none here asks =
    record {
      place = i;
      before = omega arith;
      one = l;
      at = here;
      asks = asks.0;
      may_stand = asks.1;
      all = λ k m lt there front.
          elim (cases_lt k i) [
            | inl b ↦ absurd (none k m b there front)
            | inr q ↦ subst (AsksFor path n) (same_leaf leaves k i m l (the_last k i lt q) there here) asks.0
          ];
      sole = λ f k m lt there front.
          elim (cases_lt k i) [ inl b ↦ absurd (none k m b there front) | inr q ↦ the_last k i lt q ];
    }

agree_same : (m n : Node) → Agree m n → m ≡ n
agree_same m n (c, e) = both_inner m n c e.0 e.1
  where
    inner : (n : Node) (c : Choice) → choice_in n ≡ Some c → n ≡ Inner c
    inner (Inner x) c e = ap Inner (let same : x ≡ c = cc in same)
    inner Cycle c e = cc
    inner (Bound x) c e = cc
    inner (Open x) c e = cc
    inner Hole c e = cc

    both_inner : (m n : Node) (c : Choice) → choice_in m ≡ Some c → choice_in n ≡ Some c → m ≡ n
    both_inner m n c a b = inner m c a ∙ sym (inner n c b)

-- a further one that asks for the same choice
pub seen_again : (leaves : List Leaf) (path : List Decision) (i : ℕ) (l : Leaf) (m n : Node) → IsAsked leaves path i m →
    slice_get leaves i ≡ Some l → AsksFor path n l × MayStand n → Agree m n → IsAsked leaves path (i + 1) n
seen_again leaves path i l m n s here asks agree =
    let same : m ≡ n = agree_same m n agree in
    record {
      place = s.place;
      before = (let b : s.place < i = s.before in omega arith);
      one = s.one;
      at = s.at;
      asks = subst (λ x. AsksFor path x s.one) same s.asks;
      may_stand = asks.1;
      all = λ k o lt there front.
          elim (cases_lt k i) [
            | inl b ↦ subst (λ x. AsksFor path x o) same (s.all k o b there front)
            | inr q ↦ subst (AsksFor path n) (same_leaf leaves k i o l (the_last k i lt q) there here) asks.0
          ];
      sole = λ f k o lt there front. absurd (no_leaf n agree.0 agree.1.1 f);
    }

-- one step of the look at all leaves
pub seen_next : (leaves : List Leaf) (path : List Decision) (i : ℕ) (l : Leaf) (found : Option Node) (n : Node) →
    SeenSoFar leaves path i found → slice_get leaves i ≡ Some l → AsksFor path n l × MayStand n →
    ((m : Node) → found ≡ Some m → Agree m n) → SeenSoFar leaves path (i + 1) (Some n)
seen_next leaves path i l None n s here asks agree = seen_first leaves path i l n s here asks
seen_next leaves path i l (Some m) n s here asks agree = seen_again leaves path i l m n s here asks (agree m refl)

-- and what it comes to
pub due_at_end : (leaves : List Leaf) (path : List Decision) (i : ℕ) (found : Option Node) → i ≡ length leaves →
    SeenSoFar leaves path i found → IsDue leaves path (unwrap_or found Hole)
due_at_end leaves path i None e s = inr (refl, subst (LiesNone leaves path) e s)
due_at_end leaves path i (Some n) e s = inl (subst (λ j. IsAsked leaves path j n) e s)

pub agree_when : (found : Option Node) (m n : Node) → found ≡ Some m → Agree m n → (o : Node) → found ≡ Some o → Agree o n
agree_when found m n e agree o f = let same : m ≡ o = cc in subst (λ x. Agree x n) same agree

pub agree_never : (found : Option Node) (n : Node) → found ≡ None → (o : Node) → found ≡ Some o → Agree o n
agree_never found n e o f = cc

-- the choice that the leaf asks for is not written in order
pub asks_badly_at : (path : List Decision) (l : Leaf) (whole : List Decision) (d : Decision) (c : Choice) → whole ≡ l.path →
    IsFront path l.path → length path < length whole → c ≡ choice_of (get_or whole (length path) d) → false ≡ is_ordered c →
    IsAskedOf path l None
asks_badly_at path l whole d c e front lt is o =
    let lt' : length path < length l.path = rw (← e) lt in
    let x : Decision = get_or l.path (length path) d in
    let same : c ≡ choice_of x = is ∙ ap (λ xs. choice_of (get_or xs (length path) d)) e in
    asks_badly path l x front lt' (get_or_default l.path (length path) d x lt') (ap is_ordered (sym same) ∙ sym o)

-- a leaf that asks for nothing stands in no tree
pub asks_for_none : (leaves : List Leaf) (path : List Decision) (k : ℕ) (l : Leaf) → slice_get leaves k ≡ Some l →
    IsAskedOf path l None → HaveNoTree leaves
asks_for_none leaves path k l here none shape proper has =
    let g = given_stands leaves shape has k l here in none shape proper g.1 g.0
