-- A draft grows by the node that its leaves ask for, and is the least tree with them at the end.
use Rattle.std.proofs.Common.{◌≡◌, ℕ, ◌+◌, ◌-◌, ◌<◌, Bool, true, false, cond, map, reverse, List, [], ◌∷◌, ◌++◌, length, get_or, eqb, refl, sym, ap, subst, ◌∙◌, ◌⊎◌, inl, inr, arith, Some, None, slice_get, append_assoc, append-nil, add-one}
use Rattle.std.specs.Prelude.{Contains, MatchBool}
use Rattle.std.proofs.lemmas.List.{reverse-append, map-append}
use Rattle.std.proofs.lemmas.List.Elements.{Contains-append_left, Contains-append_right, Contains-append_cases, Contains-push, Contains-push_cases}
use Rattle.std.proofs.lemmas.Option.{slice_get_within, get_or_from_slice_get, slice_get-get_or}
use Rattle.dm_rows.specs.declared.messages.Choice.{Choice}
use Rattle.dm_rows.specs.declared.messages.Decision.{Decision}
use Rattle.dm_tree.specs.declared.forms.Node.{Node}
use Rattle.dm_tree.specs.declared.forms.Node.TheVariants.{Inner, Cycle, Bound, Open, Hole}
use Rattle.dm_tree.specs.declared.forms.Leaf.{Leaf}
use Rattle.dm_tree.specs.Trees.{Shape, preorder, choice_in, IsLeaf, IsProper, StandsAt, HasLeaves, IsLeastTree, Assembles}
use Rattle.dm_rows.specs.Sides.{IsOrdered, first_decision, second_decision, is_ordered}
use Rattle.dm_tree.specs.Inside.Filling.{is_none_left, fills, visits}
use Rattle.dm_tree.specs.Pending.{pending, IsFront}
use Rattle.dm_tree.specs.Inside.Assembling.{AreGroups, IsParted, LiesBelow, AsksFor, IsDue, seen, GoesOn, IsNeeded, HasPlace, IsDueAt, IsDraft, IsFinished}
use Rattle.dm_tree.proofs.Filled.{some_more, one_back, partial_tree}
use Rattle.dm_tree.proofs.Walked.{due_after_choice, is_inner}
use Rattle.dm_tree.proofs.Standing.{stands_above, visits_below, visits_filled, stands_among, among_stands}
use Rattle.dm_rows.proofs.Sides.{is_either, ordered_tells}

-- what stands at the path of one node
abbrev pub station : List Decision → Node → Leaf
station path n = record { path = path; node = n }

pub visits_none : (due : List (List Decision)) → visits due [] ≡ []
visits_none [] = refl
visits_none (p ∷ due) = refl

pub one_visit : (path : List Decision) (due : List (List Decision)) (n : Node) → visits (path ∷ due) (n ∷ []) ≡ station path n ∷ []
one_visit path due (Inner c) = refl
one_visit path due Cycle = ap (λ xs. station path Cycle ∷ xs) (visits_none due)
one_visit path due (Bound c) = ap (λ xs. station path (Bound c) ∷ xs) (visits_none due)
one_visit path due (Open c) = ap (λ xs. station path (Open c) ∷ xs) (visits_none due)
one_visit path due Hole = ap (λ xs. station path Hole ∷ xs) (visits_none due)

pub leaf_visit : (path : List Decision) (due : List (List Decision)) (n : Node) (ns : List Node) → choice_in n ≡ None →
    visits (path ∷ due) (n ∷ ns) ≡ station path n ∷ visits due ns
leaf_visit path due (Inner c) ns e = cc
leaf_visit path due Cycle ns e = refl
leaf_visit path due (Bound c) ns e = refl
leaf_visit path due (Open c) ns e = refl
leaf_visit path due Hole ns e = refl

pub leaf_fill : (more : ℕ) (n : Node) (ns : List Node) → choice_in n ≡ None →
    fills true more (n ∷ ns) ≡ cond (eqb more 0) (is_none_left ns) (fills true (more - 1) ns)
leaf_fill more (Inner c) ns e = cc
leaf_fill more Cycle ns e = refl
leaf_fill more (Bound c) ns e = refl
leaf_fill more (Open c) ns e = refl
leaf_fill more Hole ns e = refl

-- the next node stands at the path
seen_next : (nodes : List Node) (path : List Decision) (n : Node) → GoesOn nodes path →
    seen (nodes ++ n ∷ []) ≡ seen nodes ++ station path n ∷ []
seen_next nodes path n g = g.visiting (n ∷ []) ∙ ap (λ xs. seen nodes ++ xs) (one_visit path (pending path) n)

pub goes_next : (nodes : List Node) (path new : List Decision) (n : Node) → GoesOn nodes path →
    ((ns : List Node) → fills true (length (pending path)) (n ∷ ns) ≡ fills true (length (pending new)) ns) →
    ((ns : List Node) → visits (path ∷ pending path) (n ∷ ns) ≡ station path n ∷ visits (new ∷ pending new) ns) →
    GoesOn (nodes ++ n ∷ []) new
goes_next nodes path new n g filling visiting =
    record {
      filling = λ ns. ap (fills true 0) (append_assoc nodes (n ∷ []) ns) ∙ (g.filling (n ∷ ns) ∙ filling ns);
      visiting = λ ns.
          ap (visits ([] ∷ [])) (append_assoc nodes (n ∷ []) ns)
          ∙ (g.visiting (n ∷ ns)
          ∙ (ap (λ xs. seen nodes ++ xs) (visiting ns)
          ∙ (sym (append_assoc (seen nodes) (station path n ∷ []) (visits (new ∷ pending new) ns))
          ∙ ap (λ xs. xs ++ visits (new ∷ pending new) ns) (sym (seen_next nodes path n g)))));
    }

goes_below : (nodes : List Node) (path : List Decision) (c : Choice) → is_ordered c ≡ true → GoesOn nodes path →
    GoesOn (nodes ++ Inner c ∷ []) (path ++ first_decision c ∷ [])
goes_below nodes path c o g =
    let due = due_after_choice path c o in
    goes_next nodes path (path ++ first_decision c ∷ []) (Inner c) g
    (λ ns. rw (o, due) (ap (λ k. fills true k ns) (add-one (length (pending path)))))
    (λ ns. rw due refl)

goes_aside : (nodes : List Node) (path new : List Decision) (n : Node) → choice_in n ≡ None →
    pending path ≡ new ∷ pending new → GoesOn nodes path → GoesOn (nodes ++ n ∷ []) new
goes_aside nodes path new n leaf due g =
    goes_next nodes path new n g
    (λ ns. leaf_fill (length (pending path)) n ns leaf ∙ one_less ns)
    (λ ns. leaf_visit path (pending path) n ns leaf ∙ ap (λ xs. station path n ∷ visits xs ns) due)
  where
    one_less : (ns : List Node) →
        cond (eqb (length (pending path)) 0) (is_none_left ns) (fills true (length (pending path) - 1) ns)
        ≡ fills true (length (pending new)) ns
    one_less ns =
        let count : length (pending path) ≡ length (pending new) + 1 = ap length due ∙ sym (add-one (length (pending new))) in
        rw (count, some_more (length (pending new)), one_back (length (pending new))) refl

-- what a leaf of the tree is given as
given_at : (leaves : List Leaf) (k : ℕ) (l : Leaf) (path : List Decision) (n : Node) → slice_get leaves k ≡ Some l → l.path ≡ path →
    l.node ≡ n → Contains leaves (station path n)
given_at leaves k l path n here p e =
    let same : l ≡ station path n = ap (λ q. station q l.node) p ∙ ap (station path) e in
    (k, slice_get_within leaves k l here, get_or_from_slice_get leaves k l (station path n) here ∙ same)

due_is_needed : (leaves : List Leaf) (path : List Decision) (n : Node) → IsDue leaves path n → IsNeeded leaves path n
due_is_needed leaves path (Inner c) (inl a) = (a.place, (a.one, (a.at, a.asks)))
due_is_needed leaves path Cycle (inl a) = given_at leaves a.place a.one path Cycle a.at a.asks.0 a.asks.1
due_is_needed leaves path (Bound c) (inl a) = given_at leaves a.place a.one path (Bound c) a.at a.asks.0 a.asks.1
due_is_needed leaves path (Open c) (inl a) = given_at leaves a.place a.one path (Open c) a.at a.asks.0 a.asks.1
due_is_needed leaves path Hole (inl a) = tt
due_is_needed leaves path n (inr b) = subst (IsNeeded leaves path) (sym b.0) tt

needed_next : (leaves : List Leaf) (nodes : List Node) (path : List Decision) (n : Node) → GoesOn nodes path → IsDue leaves path n →
    ((l : Leaf) → Contains (seen nodes) l → IsNeeded leaves l.path l.node) →
    (l : Leaf) → Contains (seen (nodes ++ n ∷ [])) l → IsNeeded leaves l.path l.node
needed_next leaves nodes path n g due before l h =
    elim (Contains-push_cases (seen nodes) (station path n) l (subst (λ xs. Contains xs l) (seen_next nodes path n g) h)) [
      | inl r ↦ before l r
      | inr e ↦ subst (λ (x : Leaf). IsNeeded leaves x.path x.node) e (due_is_needed leaves path n due)
    ]

place_kept : (leaves : List Leaf) (nodes : List Node) (path : List Decision) (n : Node) (k : ℕ) (l : Leaf) → GoesOn nodes path →
    HasPlace leaves nodes k l → HasPlace leaves (nodes ++ n ∷ []) k l
place_kept leaves nodes path n k l g p =
    record {
      stands = subst (λ xs. Contains xs l) (sym (seen_next nodes path n g))
          (Contains-append_left (seen nodes) (station path n ∷ []) l p.stands);
      is_leaf = p.is_leaf;
      sole = p.sole;
    }

-- where a place that is due is the path, or is behind it
path_or_behind : (path : List Decision) (due : List (List Decision)) (q : List Decision) → Contains (path ∷ due) q →
    (path ≡ q) ⊎ Contains due q
path_or_behind path due q h =
    elim (Contains-append_cases (path ∷ []) due q h) [
      | inl s ↦ elim (Contains-push_cases [] path q s) [ inl r ↦ absurd (omega (arith, r.1)) | inr e ↦ inl e ]
      | inr r ↦ inr r
    ]

is_behind : (p q : List Decision) (due : List (List Decision)) → Contains due q → Contains (p ∷ due) q
is_behind p q due h = Contains-append_right (p ∷ []) due q h

is_first : (p : List Decision) (due : List (List Decision)) → Contains (p ∷ due) p
is_first p due = (0, omega arith, refl)

-- a leaf below a choice lies at one of its two children
due_below : (path : List Decision) (c : Choice) (l : Leaf) (due : List (List Decision)) → LiesBelow path c l →
    IsDueAt ((path ++ first_decision c ∷ []) ∷ (path ++ second_decision c ∷ []) ∷ due) l
due_below path c l due b =
    let front : l.path ≡ (path ++ b.decision ∷ []) ++ b.rest = b.is ∙ sym (append_assoc path (b.decision ∷ []) b.rest) in
    elim (is_either b.decision c b.decides) [
      | inl e ↦
          record {
            path = path ++ first_decision c ∷ [];
            among = is_first (path ++ first_decision c ∷ []) ((path ++ second_decision c ∷ []) ∷ due);
            front = record { rest = b.rest; is = subst (λ d. l.path ≡ (path ++ d ∷ []) ++ b.rest) e front };
          }
      | inr e ↦
          record {
            path = path ++ second_decision c ∷ [];
            among = is_behind (path ++ first_decision c ∷ []) (path ++ second_decision c ∷ []) ((path ++ second_decision c ∷ []) ∷ due)
                (is_first (path ++ second_decision c ∷ []) due);
            front = record { rest = b.rest; is = subst (λ d. l.path ≡ (path ++ d ∷ []) ++ b.rest) e front };
          }
    ]

placed_below : (leaves : List Leaf) (nodes : List Node) (path : List Decision) (c : Choice) → is_ordered c ≡ true → GoesOn nodes path →
    IsDue leaves path (Inner c) → (k : ℕ) (l : Leaf) → slice_get leaves k ≡ Some l →
    HasPlace leaves nodes k l ⊎ IsDueAt (path ∷ pending path) l →
    HasPlace leaves (nodes ++ Inner c ∷ []) k l
    ⊎ IsDueAt ((path ++ first_decision c ∷ []) ∷ pending (path ++ first_decision c ∷ [])) l
placed_below leaves nodes path c o g due k l here (inl p) = inl (place_kept leaves nodes path (Inner c) k l g p)
placed_below leaves nodes path c o g due k l here (inr d) =
    let places = due_after_choice path c o in
    inr (rw places (elim (path_or_behind path (pending path) d.path d.among) [
      | inl e ↦ due_below path c l (pending path) (asks (subst (λ q. IsFront q l.path) (sym e) d.front) due)
      | inr r ↦
          record {
            path = d.path;
            among = is_behind (path ++ first_decision c ∷ []) d.path ((path ++ second_decision c ∷ []) ∷ pending path) (is_behind (path ++ second_decision c ∷ []) d.path (pending path) r);
            front = d.front;
          }
    ]))
  where
    asks : IsFront path l.path → IsDue leaves path (Inner c) → LiesBelow path c l
    asks front (inl a) = a.all k l (slice_get_within leaves k l here) here front
    asks front (inr b) = absurd (b.1 k l (slice_get_within leaves k l here) here front)

-- the one leaf at the path has its place there
takes_place : (leaves : List Leaf) (nodes : List Node) (path : List Decision) (n : Node) → choice_in n ≡ None → GoesOn nodes path →
    IsDue leaves path n → (k : ℕ) (l : Leaf) → slice_get leaves k ≡ Some l → IsFront path l.path →
    HasPlace leaves (nodes ++ n ∷ []) k l
takes_place leaves nodes path n leaf g (inr b) k l here front = absurd (b.1 k l (slice_get_within leaves k l here) here front)
takes_place leaves nodes path n leaf g (inl a) k l here front =
    let lt : k < length leaves = slice_get_within leaves k l here in
    let at = at_leaf n leaf (a.all k l lt here front) in
    let same : l ≡ station path n = ap (λ q. station q l.node) at.0 ∙ ap (station path) at.1 in
    record {
      stands = subst (λ xs. Contains xs l) (sym (seen_next nodes path n g))
          (subst (λ x. Contains (seen nodes ++ x ∷ []) l) same (Contains-push (seen nodes) l));
      is_leaf = subst IsLeaf (sym at.1) (is_leaf n leaf);
      sole = λ j other there e.
          let front' : IsFront path other.path = record { rest = []; is = e ∙ (at.0 ∙ sym (append-nil path)) } in
          a.sole (is_leaf n leaf) j other (slice_get_within leaves j other there) there front'
          ∙ sym (a.sole (is_leaf n leaf) k l lt here front);
    }
  where
    is_leaf : (n : Node) → choice_in n ≡ None → IsLeaf n
    is_leaf (Inner c) e = cc
    is_leaf Cycle e = tt
    is_leaf (Bound c) e = tt
    is_leaf (Open c) e = tt
    is_leaf Hole e = tt

    at_leaf : (n : Node) → choice_in n ≡ None → AsksFor path n l → (l.path ≡ path) × (l.node ≡ n)
    at_leaf (Inner c) e asks = cc
    at_leaf Cycle e asks = asks
    at_leaf (Bound c) e asks = asks
    at_leaf (Open c) e asks = asks
    at_leaf Hole e asks = asks

placed_aside : (leaves : List Leaf) (nodes : List Node) (path : List Decision) (n : Node) → choice_in n ≡ None → GoesOn nodes path →
    IsDue leaves path n → (k : ℕ) (l : Leaf) → slice_get leaves k ≡ Some l →
    HasPlace leaves nodes k l ⊎ IsDueAt (path ∷ pending path) l →
    HasPlace leaves (nodes ++ n ∷ []) k l ⊎ IsDueAt (pending path) l
placed_aside leaves nodes path n leaf g due k l here (inl p) = inl (place_kept leaves nodes path n k l g p)
placed_aside leaves nodes path n leaf g due k l here (inr d) =
    elim (path_or_behind path (pending path) d.path d.among) [
      | inl e ↦ inl (takes_place leaves nodes path n leaf g due k l here (subst (λ q. IsFront q l.path) (sym e) d.front))
      | inr r ↦ inr (record { path = d.path; among = r; front = d.front })
    ]

-- a draft after a choice
pub grows_below : (leaves : List Leaf) (nodes : List Node) (path new : List Decision) (groups now : List (List ℕ)) (n : Node) (c : Choice) →
    n ≡ Inner c → new ≡ path ++ first_decision c ∷ [] → IsDue leaves path n → AreGroups leaves (new ∷ pending new) now →
    IsDraft leaves nodes path groups → IsDraft leaves (nodes ++ n ∷ []) new now
grows_below leaves nodes path new groups now n c is next due grouped draft =
    rw (is, next) (at_choice (subst (IsDue leaves path) is due) (subst (λ p. AreGroups leaves (p ∷ pending p) now) next grouped))
  where
    at_choice : IsDue leaves path (Inner c) →
        AreGroups leaves ((path ++ first_decision c ∷ []) ∷ pending (path ++ first_decision c ∷ [])) now →
        IsDraft leaves (nodes ++ Inner c ∷ []) (path ++ first_decision c ∷ []) now
    at_choice due grouped =
        let o : is_ordered c ≡ true = ordered_tells c (may due) in
        record {
          goes_on = goes_below nodes path c o draft.goes_on;
          grouped = grouped;
          needed = needed_next leaves nodes path (Inner c) draft.goes_on due draft.needed;
          placed = λ k l here. placed_below leaves nodes path c o draft.goes_on due k l here (draft.placed k l here);
        }
      where
        may : IsDue leaves path (Inner c) → IsOrdered c
        may (inl a) = a.may_stand
        may (inr b) = cc

-- a draft after a leaf, where something is still due
pub grows_aside : (leaves : List Leaf) (nodes : List Node) (path new : List Decision) (groups now : List (List ℕ)) (n : Node) →
    choice_in n ≡ None → pending path ≡ new ∷ pending new → IsDue leaves path n → AreGroups leaves (new ∷ pending new) now →
    IsDraft leaves nodes path groups → IsDraft leaves (nodes ++ n ∷ []) new now
grows_aside leaves nodes path new groups now n leaf behind due grouped draft =
    record {
      goes_on = goes_aside nodes path new n leaf behind draft.goes_on;
      grouped = grouped;
      needed = needed_next leaves nodes path n draft.goes_on due draft.needed;
      placed = λ k l here.
          subst (λ places. HasPlace leaves (nodes ++ n ∷ []) k l ⊎ IsDueAt places l) behind
          (placed_aside leaves nodes path n leaf draft.goes_on due k l here (draft.placed k l here));
    }

-- and where nothing is
pub grows_last : (leaves : List Leaf) (nodes : List Node) (path : List Decision) (groups : List (List ℕ)) (n : Node) →
    choice_in n ≡ None → pending path ≡ [] → IsDue leaves path n →
    IsDraft leaves nodes path groups → IsFinished leaves (nodes ++ n ∷ [])
grows_last leaves nodes path groups n leaf behind due draft =
    record {
      whole =
          draft.goes_on.filling (n ∷ [])
          ∙ (ap (λ (xs : List (List Decision)). fills true (length xs) (n ∷ [])) behind ∙ leaf_fill 0 n [] leaf);
      needed = needed_next leaves nodes path n draft.goes_on due draft.needed;
      placed = λ k l here. over k l (placed_aside leaves nodes path n leaf draft.goes_on due k l here (draft.placed k l here));
    }
  where
    over : (k : ℕ) (l : Leaf) → HasPlace leaves (nodes ++ n ∷ []) k l ⊎ IsDueAt (pending path) l →
        HasPlace leaves (nodes ++ n ∷ []) k l
    over k l (inl p) = p
    over k l (inr d) =
        let h : Contains [] d.path = subst (λ places. Contains places d.path) behind d.among in absurd (omega (arith, h.1))

-- a finished draft is the least tree with its leaves
pub finished_is_least : (leaves : List Leaf) (nodes : List Node) → IsFinished leaves nodes → Assembles leaves nodes
finished_is_least leaves nodes f =
    let t = partial_tree nodes f.whole in
    record { shape = t.shape; in_preorder = t.in_preorder; proper = t.proper; least = at_shape t.shape t.in_preorder t.proper }
  where
    at_shape : (shape : Shape) → preorder shape ≡ nodes → IsProper shape → IsLeastTree shape leaves
    at_shape shape reads proper =
        record {
          has = record {
            stand = λ k d lt. stands k (get_or leaves k d) (slice_get-get_or leaves k d lt);
            are_leaves = λ k d lt. (f.placed k (get_or leaves k d) (slice_get-get_or leaves k d lt)).is_leaf;
            once = λ m n a b at_m at_n e. (f.placed n b at_n).sole m a at_m e;
          };
          holes = λ path n s i. hole_or_given path n i (f.needed (station path n) (is_seen path n s));
          least = λ other other_proper has path c s.
              least_at other other_proper has path c (f.needed (station path (Inner c)) (is_seen path (Inner c) s));
        }
      where
        read : visits ([] ∷ []) (preorder shape ++ []) ≡ visits_below [] shape ++ []
        read = visits_filled [] [] shape [] proper

        all : seen nodes ≡ visits_below [] shape
        all = subst (λ xs. visits ([] ∷ []) xs ≡ visits_below [] shape) (append-nil (preorder shape) ∙ reads)
            (read ∙ append-nil (visits_below [] shape))

        stands : (k : ℕ) (l : Leaf) → slice_get leaves k ≡ Some l → StandsAt shape l.path l.node
        stands k l here =
            let b = among_stands [] shape l (subst (λ xs. Contains xs l) all (f.placed k l here).stands) in
            subst (λ p. StandsAt shape p l.node) (sym b.is) b.stands

        is_seen : (path : List Decision) (n : Node) → StandsAt shape path n → Contains (seen nodes) (station path n)
        is_seen path n s = subst (λ xs. Contains xs (station path n)) (sym all) (stands_among [] shape path n s)

        hole_or_given : (path : List Decision) (n : Node) → IsLeaf n → IsNeeded leaves path n →
            (n ≡ Hole) ⊎ Contains leaves (station path n)
        hole_or_given path (Inner c) i needed = absurd i
        hole_or_given path Cycle i needed = inr needed
        hole_or_given path (Bound c) i needed = inr needed
        hole_or_given path (Open c) i needed = inr needed
        hole_or_given path Hole i needed = inl refl

        least_at : (other : Shape) → IsProper other → HasLeaves other leaves → (path : List Decision) (c : Choice) →
            (k : ℕ) × ((l : Leaf) × ((slice_get leaves k ≡ Some l) × LiesBelow path c l)) → StandsAt other path (Inner c)
        least_at other proper has path c (k, (l, (here, below))) =
            let lt : k < length leaves = slice_get_within leaves k l here in
            let s : StandsAt other l.path l.node =
            subst (λ (x : Leaf). StandsAt other x.path x.node) (get_or_from_slice_get leaves k l l here) (has.stand k l lt) in
            let up = stands_above other path below.rest below.decision l.node proper (subst (λ p. StandsAt other p l.node) below.is s) in
            subst (λ x. StandsAt other path (Inner x)) below.decides up.0

-- the groups of what is due behind a path
pub groups_behind : (leaves : List Leaf) (path : List Decision) (due : List (List Decision)) (here : List ℕ) (groups : List (List ℕ)) →
    AreGroups leaves (path ∷ due) (here ∷ groups) → AreGroups leaves due groups
groups_behind leaves path due here groups g = g.1

-- the step of a draft as the code makes it
pub grow_choice : (leaves : List Leaf) (nodes more : List Node) (path new looked read : List Decision) (here : List ℕ)
    (was groups now : List (List ℕ)) (n : Node) (c : Choice) → more ≡ nodes ++ n ∷ [] → Some c ≡ choice_in n →
    new ≡ path ++ first_decision c ∷ [] → looked ≡ path → IsDue leaves looked n → was ≡ here ∷ groups →
    read ≡ path → IsParted leaves read c groups now → IsDraft leaves nodes path was → IsDraft leaves more new now
grow_choice leaves nodes more path new looked read here was groups now n c e is next l due w r parted draft =
    let behind : AreGroups leaves (pending path) groups =
    groups_behind leaves path (pending path) here groups (subst (AreGroups leaves (path ∷ pending path)) w draft.grouped) in
    let due' : IsDue leaves path n = subst (λ p. IsDue leaves p n) l due in
    let parted' : IsParted leaves path c groups now = subst (λ p. IsParted leaves p c groups now) r parted in
    let o : is_ordered c ≡ true = ordered_tells c (may due' (is_inner n c (sym is))) in
    rw e (grows_below leaves nodes path new was now n c (is_inner n c (sym is)) next due' (all_parted o behind parted') draft)
  where
    may : IsDue leaves path n → n ≡ Inner c → IsOrdered c
    may due i = may_stand (subst (IsDue leaves path) i due)
      where
        may_stand : IsDue leaves path (Inner c) → IsOrdered c
        may_stand (inl a) = a.may_stand
        may_stand (inr b) = cc

    all_parted : is_ordered c ≡ true → AreGroups leaves (pending path) groups → IsParted leaves path c groups now →
        AreGroups leaves (new ∷ pending new) now
    all_parted o behind p =
        rw (next, due_after_choice path c o, p.is) (p.of_first, (p.of_second, behind))

pub grow_leaf : (leaves : List Leaf) (nodes more : List Node) (path new looked : List Decision) (here : List ℕ)
    (was groups : List (List ℕ)) (n : Node) → more ≡ nodes ++ n ∷ [] → None ≡ choice_in n → pending path ≡ new ∷ pending new →
    looked ≡ path → IsDue leaves looked n → was ≡ here ∷ groups → IsDraft leaves nodes path was → IsDraft leaves more new groups
grow_leaf leaves nodes more path new looked here was groups n e is behind l due w draft =
    let left : AreGroups leaves (new ∷ pending new) groups =
    subst (λ places. AreGroups leaves places groups) behind
    (groups_behind leaves path (pending path) here groups (subst (AreGroups leaves (path ∷ pending path)) w draft.grouped)) in
    rw e (grows_aside leaves nodes path new was groups n (sym is) behind (subst (λ p. IsDue leaves p n) l due) left draft)

pub grow_end : (leaves : List Leaf) (nodes more : List Node) (path looked : List Decision) (groups : List (List ℕ)) (n : Node) →
    more ≡ nodes ++ n ∷ [] → None ≡ choice_in n → pending path ≡ [] → looked ≡ path → IsDue leaves looked n →
    IsDraft leaves nodes path groups → IsFinished leaves more
grow_end leaves nodes more path looked groups n e is behind l due draft =
    rw e (grows_last leaves nodes path groups n (sym is) behind (subst (λ p. IsDue leaves p n) l due) draft)

-- the groups with another one on top
pub top_is : {V : Type 0} (f : V → List ℕ) (all rest : List V) (v : V) → all ≡ rest ++ v ∷ [] →
    reverse (map f all) ≡ f v ∷ reverse (map f rest)
top_is f all rest v e =
    ap (λ xs. reverse (map f xs)) e ∙ (ap reverse (map-append f rest (v ∷ [])) ∙ reverse-append (map f rest) (f v ∷ []))

-- a leaf, behind which something is due or nothing is
pub grow_leaf_or_end : (leaves : List Leaf) (nodes more : List Node) (path new looked : List Decision) (here : List ℕ)
    (was groups : List (List ℕ)) (n : Node) (turned : Bool) → more ≡ nodes ++ n ∷ [] → None ≡ choice_in n →
    MatchBool turned (pending path ≡ new ∷ pending new) (pending path ≡ []) → looked ≡ path → IsDue leaves looked n →
    was ≡ here ∷ groups → IsDraft leaves nodes path was →
    MatchBool turned (IsDraft leaves more new groups) (IsFinished leaves more)
grow_leaf_or_end leaves nodes more path new looked here was groups n true e is behind l due w draft =
    grow_leaf leaves nodes more path new looked here was groups n e is behind l due w draft
grow_leaf_or_end leaves nodes more path new looked here was groups n false e is behind l due w draft =
    grow_end leaves nodes more path looked was n e is behind l due draft
