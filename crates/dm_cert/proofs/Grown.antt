-- A tree grows from its leaves: how each leaf moves it on, and where no tree has the leaves.
use Rattle.std.proofs.Common.{◌≡◌, ℕ, ◌+◌, ◌<◌, true, false, List, [], ◌∷◌, ◌++◌, length, refl, sym, ap, subst, ◌∙◌, ◌⊎◌, inl, inr, arith, append_assoc, append-nil, length-append, drop, get_or}
use Rattle.std.proofs.lemmas.List.{append_cancel_left, drop_more}
use Rattle.dm_rows.specs.declared.messages.Choice.{Choice}
use Rattle.dm_rows.specs.declared.messages.Decision.{Decision}
use Rattle.dm_rows.specs.Decide.{choice_of}
use Rattle.dm_tree.specs.declared.forms.Node.{Node}
use Rattle.dm_tree.specs.declared.forms.Node.TheVariants.{Inner, Cycle, Bound, Open, Hole}
use Rattle.dm_tree.specs.declared.forms.Leaf.{Leaf}
use Rattle.dm_rows.proofs.Sides.{IsFirstOf, first_of_choice, first_is_first, first_decides, ordered}
use Rattle.dm_rows.specs.Sides.{first_decision, second_decision, is_ordered, is_first_decision, other_decision}
use Rattle.dm_tree.specs.Pending.{pending}
use Rattle.dm_tree.proofs.Walked.{pending_push}
use Rattle.dm_cert.specs.PlansRead.{IsSpelledLeaf}
use Rattle.dm_cert.specs.Inside.Growing.{FillsDue, IsFirstLeaf, GoesOnWith, IsGrown, IsBroken, IsDown}

-- ---- the first leaf

-- the first leaf of trees at the places due lies at the first place or below
pub record LiesAt (path : List Decision) (leaves : List Leaf) : Type 0 where
  pub first : Leaf
  pub others : List Leaf
  pub are : leaves ≡ first ∷ others
  pub tail : List Decision
  pub below : first.path ≡ path ++ tail

at_first : (path : List Decision) (n : Node) (leaves : List Leaf) (others : List Leaf → Type 0) → IsFirstLeaf path n leaves others → LiesAt path leaves
at_first path n [] others f = absurd f
at_first path n (l ∷ leaves) others f = record { first = l; others = leaves; are = refl; tail = []; below = f.0 ∙ sym (append-nil path) }

pub first_lies : (path : List Decision) (due : List (List Decision)) (nodes : List Node) (leaves : List Leaf) → FillsDue (path ∷ due) nodes leaves → LiesAt path leaves
first_lies path due [] leaves f = absurd f
first_lies path due (Inner c ∷ nodes) leaves f =
    let below = first_lies (path ++ first_decision c ∷ []) ((path ++ second_decision c ∷ []) ∷ due) nodes leaves f.1 in
    record {
      first = below.first;
      others = below.others;
      are = below.are;
      tail = first_decision c ∷ below.tail;
      below = below.below ∙ append_assoc path (first_decision c ∷ []) below.tail;
    }
first_lies path due (Cycle ∷ nodes) leaves f = at_first path Cycle leaves (FillsDue due nodes) f
first_lies path due (Bound c ∷ nodes) leaves f = at_first path (Bound c) leaves (FillsDue due nodes) f
first_lies path due (Open c ∷ nodes) leaves f = at_first path (Open c) leaves (FillsDue due nodes) f
first_lies path due (Hole ∷ nodes) leaves f = absurd f

-- what the first leaf says of the node at the first place
pub record AsksChoice (path : List Decision) (due : List (List Decision)) (nodes : List Node) (l : Leaf) (leaves : List Leaf) : Type 0 where
  pub choice : Choice
  pub rest : List Node
  pub are : nodes ≡ Inner choice ∷ rest
  pub ordered : is_ordered choice ≡ true
  pub fill : FillsDue ((path ++ first_decision choice ∷ []) ∷ (path ++ second_decision choice ∷ []) ∷ due) rest (l ∷ leaves)
  pub tail : List Decision
  pub below : l.path ≡ path ++ (first_decision choice ∷ tail)

pub record AsksLeaf (path : List Decision) (due : List (List Decision)) (nodes : List Node) (l : Leaf) (leaves : List Leaf) : Type 0 where
  pub rest : List Node
  pub are : nodes ≡ l.node ∷ rest
  pub fill : FillsDue due rest leaves
  pub here : l.path ≡ path

leaf_asks : (path : List Decision) (due : List (List Decision)) (n : Node) (nodes : List Node) (l : Leaf) (leaves : List Leaf) →
    (l.path ≡ path) × (l.node ≡ n) × FillsDue due nodes leaves → AsksLeaf path due (n ∷ nodes) l leaves
leaf_asks path due n nodes l leaves f = record { rest = nodes; are = ap (λ m. m ∷ nodes) (sym f.1); fill = f.2; here = f.0 }

pub asks : (path : List Decision) (due : List (List Decision)) (nodes : List Node) (l : Leaf) (leaves : List Leaf) → FillsDue (path ∷ due) nodes (l ∷ leaves) →
    AsksChoice path due nodes l leaves ⊎ AsksLeaf path due nodes l leaves
asks path due [] l leaves f = absurd f
asks path due (Inner c ∷ nodes) l leaves f =
    let lies = first_lies (path ++ first_decision c ∷ []) ((path ++ second_decision c ∷ []) ∷ due) nodes (l ∷ leaves) f.1 in
    let same : l ≡ lies.first = let e = lies.are in cc in
    inl (record {
      choice = c;
      rest = nodes;
      are = refl;
      ordered = f.0;
      fill = f.1;
      tail = lies.tail;
      below = ap (λ (x : Leaf). x.path) same ∙ (lies.below ∙ append_assoc path (first_decision c ∷ []) lies.tail);
    })
asks path due (Cycle ∷ nodes) l leaves f = inr (leaf_asks path due Cycle nodes l leaves f)
asks path due (Bound c ∷ nodes) l leaves f = inr (leaf_asks path due (Bound c) nodes l leaves f)
asks path due (Open c ∷ nodes) l leaves f = inr (leaf_asks path due (Open c) nodes l leaves f)
asks path due (Hole ∷ nodes) l leaves f = absurd f

pub longer : (path tail : List Decision) (d : Decision) → path ≡ path ++ (d ∷ tail) → ⊥
longer path tail d e = let n : length path ≡ length (path ++ (d ∷ tail)) = ap length e in absurd (omega (arith, n, length-append path (d ∷ tail)))

pub same_first : (path t u : List Decision) (d e : Decision) → path ++ (d ∷ t) ≡ path ++ (e ∷ u) → d ≡ e
same_first path t u d e p = let q = append_cancel_left path (d ∷ t) (e ∷ u) p in cc

-- ---- steps

-- the next leaf is known
pub grown_for : (read : List Leaf) (held : List Node) (due : List (List Decision)) (l : Leaf) → IsGrown read [] held due → IsGrown read (l ∷ []) held due
grown_for read held due l g = record { together = g.together; alone = λ all leaves f. g.alone all (l ∷ leaves) f }

-- what comes of a node for one place due
pub goes_on : (held all : List Node) (due due' : List (List Decision)) (leaves leaves' : List Leaf) (n : Node) (nodes rest : List Node) →
    all ≡ held ++ nodes → nodes ≡ n ∷ rest → FillsDue due' rest leaves' → GoesOnWith (held ++ n ∷ []) all due' leaves'
goes_on held all due due' leaves leaves' n nodes rest all_are are fill =
    record { nodes = rest; all_are = all_are ∙ (ap (λ ns. held ++ ns) are ∙ sym (append_assoc held (n ∷ []) rest)); fill = fill }

-- a first decision of the next leaf's path asks for its choice
pub grown_choice : (read : List Leaf) (held : List Node) (path tail : List Decision) (due : List (List Decision)) (l : Leaf) (d : Decision) →
    is_first_decision d ≡ true → l.path ≡ path ++ (d ∷ tail) → IsGrown read (l ∷ []) held (path ∷ due) →
    IsGrown read (l ∷ []) (held ++ Inner (choice_of d) ∷ []) ((path ++ d ∷ []) ∷ (path ++ other_decision d ∷ []) ∷ due)
grown_choice read held path tail due l d first below g = record { together = forward; alone = backward }
  where
    c : Choice
    c = choice_of d

    of : IsFirstOf d (choice_of d)
    of = first_of_choice d first

    forward : (nodes : List Node) (leaves : List Leaf) → FillsDue ((path ++ d ∷ []) ∷ (path ++ other_decision d ∷ []) ∷ due) nodes leaves →
        FillsDue ([] ∷ []) ((held ++ Inner (choice_of d) ∷ []) ++ nodes) (read ++ leaves)
    forward nodes leaves f =
        let g1 : FillsDue ((path ++ first_decision (choice_of d) ∷ []) ∷ (path ++ other_decision d ∷ []) ∷ due) nodes leaves =
        subst (λ (x : Decision). FillsDue ((path ++ x ∷ []) ∷ (path ++ other_decision d ∷ []) ∷ due) nodes leaves) (sym of.first) f in
        let g2 : FillsDue ((path ++ first_decision (choice_of d) ∷ []) ∷ (path ++ second_decision (choice_of d) ∷ []) ∷ due) nodes leaves =
        subst (λ (x : Decision). FillsDue ((path ++ first_decision (choice_of d) ∷ []) ∷ (path ++ x ∷ []) ∷ due) nodes leaves) (sym of.second) g1 in
        subst (λ (ns : List Node). FillsDue ([] ∷ []) ns (read ++ leaves)) (sym (append_assoc held (Inner (choice_of d) ∷ []) nodes))
        (g.together (Inner (choice_of d) ∷ nodes) leaves (of.ordered, g2))

    at : (all : List Node) (leaves : List Leaf) (went : GoesOnWith held all (path ∷ due) (l ∷ leaves)) →
        AsksChoice path due went.nodes l leaves ⊎ AsksLeaf path due went.nodes l leaves →
        GoesOnWith (held ++ Inner (choice_of d) ∷ []) all ((path ++ d ∷ []) ∷ (path ++ other_decision d ∷ []) ∷ due) (l ∷ leaves)
    at all leaves went (inl a) =
        let same : first_decision a.choice ≡ d = same_first path a.tail tail (first_decision a.choice) d (sym a.below ∙ below) in
        let choice : choice_of d ≡ a.choice = sym (ap choice_of same) ∙ first_decides a.choice (ordered a.choice a.ordered) in
        let second : second_decision a.choice ≡ other_decision d = sym (ap second_decision choice) ∙ of.second in
        let f1 : FillsDue ((path ++ d ∷ []) ∷ (path ++ second_decision a.choice ∷ []) ∷ due) a.rest (l ∷ leaves) =
        subst (λ (x : Decision). FillsDue ((path ++ x ∷ []) ∷ (path ++ second_decision a.choice ∷ []) ∷ due) a.rest (l ∷ leaves)) same a.fill in
        let f2 : FillsDue ((path ++ d ∷ []) ∷ (path ++ other_decision d ∷ []) ∷ due) a.rest (l ∷ leaves) =
        subst (λ (x : Decision). FillsDue ((path ++ d ∷ []) ∷ (path ++ x ∷ []) ∷ due) a.rest (l ∷ leaves)) second f1 in
        goes_on held all (path ∷ due) ((path ++ d ∷ []) ∷ (path ++ other_decision d ∷ []) ∷ due) (l ∷ leaves) (l ∷ leaves) (Inner (choice_of d)) went.nodes a.rest went.all_are
        (a.are ∙ ap (λ x. Inner x ∷ a.rest) (sym choice)) f2
    at all leaves went (inr a) = absurd (longer path tail d (sym a.here ∙ below))

    backward : (all : List Node) (leaves : List Leaf) → FillsDue ([] ∷ []) all (read ++ (l ∷ leaves)) →
        GoesOnWith (held ++ Inner (choice_of d) ∷ []) all ((path ++ d ∷ []) ∷ (path ++ other_decision d ∷ []) ∷ due) (l ∷ leaves)
    backward all leaves f =
        let went = g.alone all leaves f in
        at all leaves went (asks path due went.nodes l leaves went.fill)

-- the next leaf stands at the place
pub grown_leaf : (read : List Leaf) (held : List Node) (path : List Decision) (due : List (List Decision)) (l : Leaf) →
    IsSpelledLeaf l.node → l.path ≡ path → IsGrown read (l ∷ []) held (path ∷ due) → IsGrown (read ++ l ∷ []) [] (held ++ l.node ∷ []) due
grown_leaf read held path due l is here g = record { together = forward; alone = backward }
  where
    fills_leaf : (n : Node) → IsSpelledLeaf n → l.node ≡ n → (nodes : List Node) (leaves : List Leaf) → FillsDue due nodes leaves → FillsDue (path ∷ due) (n ∷ nodes) (l ∷ leaves)
    fills_leaf (Inner c) is e nodes leaves f = absurd is
    fills_leaf Cycle is e nodes leaves f = (here, e, f)
    fills_leaf (Bound c) is e nodes leaves f = (here, e, f)
    fills_leaf (Open c) is e nodes leaves f = (here, e, f)
    fills_leaf Hole is e nodes leaves f = absurd is

    forward : (nodes : List Node) (leaves : List Leaf) → FillsDue due nodes leaves → FillsDue ([] ∷ []) ((held ++ l.node ∷ []) ++ nodes) ((read ++ l ∷ []) ++ leaves)
    forward nodes leaves f =
        rw (append_assoc held (l.node ∷ []) nodes, append_assoc read (l ∷ []) leaves)
        (g.together (l.node ∷ nodes) (l ∷ leaves) (fills_leaf l.node is refl nodes leaves f))

    at : (all : List Node) (leaves : List Leaf) (went : GoesOnWith held all (path ∷ due) (l ∷ leaves)) →
        AsksChoice path due went.nodes l leaves ⊎ AsksLeaf path due went.nodes l leaves → GoesOnWith (held ++ l.node ∷ []) all due leaves
    at all leaves went (inl a) = absurd (longer path a.tail (first_decision a.choice) (sym here ∙ a.below))
    at all leaves went (inr a) = goes_on held all (path ∷ due) due (l ∷ leaves) leaves l.node went.nodes a.rest went.all_are a.are a.fill

    backward : (all : List Node) (leaves : List Leaf) → FillsDue ([] ∷ []) all ((read ++ l ∷ []) ++ leaves) → GoesOnWith (held ++ l.node ∷ []) all due leaves
    backward all leaves f =
        let went = g.alone all leaves (subst (λ (ls : List Leaf). FillsDue ([] ∷ []) all ls) (append_assoc read (l ∷ []) leaves) f) in
        at all leaves went (asks path due went.nodes l leaves went.fill)

-- ---- where there is no tree

broken_from : (read : List Leaf) (held : List Node) (due : List (List Decision)) (l : Leaf) → IsGrown read (l ∷ []) held due →
    ((nodes : List Node) (leaves : List Leaf) → FillsDue due nodes (l ∷ leaves) → ⊥) → IsBroken (read ++ l ∷ [])
broken_from read held due l g none = λ all leaves f.
    let went = g.alone all leaves (subst (λ (ls : List Leaf). FillsDue ([] ∷ []) all ls) (append_assoc read (l ∷ []) leaves) f) in
    none went.nodes leaves went.fill

-- the path does not begin with that of the place
pub broken_elsewhere : (read : List Leaf) (held : List Node) (path : List Decision) (due : List (List Decision)) (l : Leaf) →
    ((tail : List Decision) → l.path ≡ path ++ tail → ⊥) → IsGrown read (l ∷ []) held (path ∷ due) → IsBroken (read ++ l ∷ [])
broken_elsewhere read held path due l other g = broken_from read held (path ∷ due) l g at
  where
    at : (nodes : List Node) (leaves : List Leaf) → FillsDue (path ∷ due) nodes (l ∷ leaves) → ⊥
    at nodes leaves f =
        let lies = first_lies path due nodes (l ∷ leaves) f in
        let same : l ≡ lies.first = let e = lies.are in cc in
        other lies.tail (ap (λ (x : Leaf). x.path) same ∙ lies.below)

-- it goes on by a decision that no first child has
pub broken_second : (read : List Leaf) (held : List Node) (path tail : List Decision) (due : List (List Decision)) (l : Leaf) (d : Decision) →
    is_first_decision d ≡ false → l.path ≡ path ++ (d ∷ tail) → IsGrown read (l ∷ []) held (path ∷ due) → IsBroken (read ++ l ∷ [])
broken_second read held path tail due l d second below g = broken_from read held (path ∷ due) l g at
  where
    at_asked : (nodes : List Node) (leaves : List Leaf) → AsksChoice path due nodes l leaves ⊎ AsksLeaf path due nodes l leaves → ⊥
    at_asked nodes leaves (inl a) =
        let same : first_decision a.choice ≡ d = same_first path a.tail tail (first_decision a.choice) d (sym a.below ∙ below) in
        let first : is_first_decision d ≡ true = sym (ap is_first_decision same) ∙ first_is_first a.choice a.ordered in
        let apart : true ≡ false = sym first ∙ second in
        cc
    at_asked nodes leaves (inr a) = longer path tail d (sym a.here ∙ below)

    at : (nodes : List Node) (leaves : List Leaf) → FillsDue (path ∷ due) nodes (l ∷ leaves) → ⊥
    at nodes leaves f = at_asked nodes leaves (asks path due nodes l leaves f)

-- no place is left for a further leaf
pub broken_beyond : (read : List Leaf) (held : List Node) (l : Leaf) → IsGrown read [] held [] → IsBroken (read ++ l ∷ [])
broken_beyond read held l g = broken_from read held [] l (grown_for read held [] l g) at
  where
    at : (nodes : List Node) (leaves : List Leaf) → FillsDue [] nodes (l ∷ leaves) → ⊥
    at [] leaves f = cc
    at (n ∷ nodes) leaves f = f

pub broken_still : (read : List Leaf) (l : Leaf) → IsBroken read → IsBroken (read ++ l ∷ [])
broken_still read l none = λ all leaves f. none all (l ∷ leaves) (subst (λ (ls : List Leaf). FillsDue ([] ∷ []) all ls) (append_assoc read (l ∷ []) leaves) f)

-- ---- the end

no_leaves : (path : List Decision) (due : List (List Decision)) (nodes : List Node) → FillsDue (path ∷ due) nodes [] → ⊥
no_leaves path due nodes f = let lies = first_lies path due nodes [] f in let e = lies.are in cc

pub fills_at_end : (read : List Leaf) (held : List Node) → IsGrown read [] held [] → FillsDue ([] ∷ []) held read
fills_at_end read held g =
    let f = g.together [] [] refl in
    let h : FillsDue ([] ∷ []) held (read ++ []) = subst (λ (ns : List Node). FillsDue ([] ∷ []) ns (read ++ [])) (append-nil held) f in
    subst (λ (ls : List Leaf). FillsDue ([] ∷ []) held ls) (append-nil read) h

pub none_while_due : (read : List Leaf) (held : List Node) (path : List Decision) (due : List (List Decision)) → IsGrown read [] held (path ∷ due) →
    (all : List Node) → FillsDue ([] ∷ []) all read → ⊥
none_while_due read held path due g all f =
    let went = g.alone all [] (subst (λ (ls : List Leaf). FillsDue ([] ∷ []) all ls) (sym (append-nil read)) f) in
    no_leaves path due went.nodes went.fill

pub none_if_broken : (read : List Leaf) → IsBroken read → (all : List Node) → FillsDue ([] ∷ []) all read → ⊥
none_if_broken read none all f = none all [] (subst (λ (ls : List Leaf). FillsDue ([] ∷ []) all ls) (sym (append-nil read)) f)

-- ---- down along the next leaf's path

pub path_step : (first path new tail : List Decision) (i : ℕ) (x : Decision) → i < length tail → first ++ tail ≡ path ++ drop i tail →
    new ≡ path ++ get_or tail i x ∷ [] → first ++ tail ≡ new ++ drop (i + 1) tail
path_step first path new tail i x lt e is =
    e ∙ (ap (λ xs. path ++ xs) (drop_more tail i x lt) ∙ (sym (append_assoc path (get_or tail i x ∷ []) (drop (i + 1) tail)) ∙ ap (λ xs. xs ++ drop (i + 1) tail) (sym is)))

pub below_step : (l : Leaf) (first path tail : List Decision) (i : ℕ) (x : Decision) → i < length tail → l.path ≡ first ++ tail → first ++ tail ≡ path ++ drop i tail →
    l.path ≡ path ++ (get_or tail i x ∷ drop (i + 1) tail)
below_step l first path tail i x lt is e = is ∙ (e ∙ ap (λ xs. path ++ xs) (drop_more tail i x lt))

pub grown_step : (read : List Leaf) (l : Leaf) (held held' : List Node) (path path' tail : List Decision) (d : Decision) (c : Choice) →
    true ≡ is_first_decision d → l.path ≡ path ++ (d ∷ tail) → held' ≡ held ++ Inner c ∷ [] → c ≡ choice_of d → path' ≡ path ++ d ∷ [] →
    IsGrown read (l ∷ []) held (path ∷ pending path) → IsGrown read (l ∷ []) held' (path' ∷ pending path')
grown_step read l held held' path path' tail d c first below held_is c_is path_is g =
    let grown = grown_choice read held path tail (pending path) l d (sym first) below g in
    let due : pending path' ≡ (path ++ other_decision d ∷ []) ∷ pending path = ap pending path_is ∙ (pending_push path d ∙ rw (← first) refl) in
    rw (held_is, c_is, due, path_is) grown

-- the leaf stands at the place, and a later place is due
pub grown_turned : (read : List Leaf) (held held' : List Node) (path new : List Decision) (l : Leaf) → IsSpelledLeaf l.node →
    IsDown read l held path → held' ≡ held ++ l.node ∷ [] → pending path ≡ new ∷ pending new → IsGrown (read ++ l ∷ []) [] held' (new ∷ pending new)
grown_turned read held held' path new l is down held_is turned =
    rw held_is (subst (λ (due : List (List Decision)). IsGrown (read ++ l ∷ []) [] (held ++ l.node ∷ []) due) turned
    (grown_leaf read held path (pending path) l is down.here down.grown))

-- or no place is left
pub grown_whole : (read : List Leaf) (held held' : List Node) (path : List Decision) (l : Leaf) → IsSpelledLeaf l.node →
    IsDown read l held path → held' ≡ held ++ l.node ∷ [] → pending path ≡ [] → IsGrown (read ++ l ∷ []) [] held' []
grown_whole read held held' path l is down held_is over =
    rw held_is (subst (λ (due : List (List Decision)). IsGrown (read ++ l ∷ []) [] (held ++ l.node ∷ []) due) over
    (grown_leaf read held path (pending path) l is down.here down.grown))
