-- The path to the place that is read stands for all places that are due.
use Rattle.std.proofs.Common.{◌≡◌, ℕ, ◌+◌, ◌-◌, Bool, true, false, cond, List, [], ◌∷◌, ◌++◌, length, eqb, refl, sym, ap, subst, ◌∙◌, ◌⊎◌, inl, inr, Some, None, append_assoc, append-nil, add-one, ◌<◌, get_or, drop}
use Rattle.std.specs.Prelude.{MatchBool}
use Rattle.std.proofs.lemmas.List.{reverse-append, reverse-reverse, drop_more}
use Rattle.dm_rows.specs.declared.messages.Choice.{Choice}
use Rattle.dm_rows.specs.declared.messages.Decision.{Decision}
use Rattle.dm_tree.specs.declared.forms.Node.{Node}
use Rattle.dm_tree.specs.declared.forms.Node.TheVariants.{Inner, Cycle, Bound, Open, Hole}
use Rattle.dm_tree.specs.declared.forms.Leaf.{Leaf}
use Rattle.dm_tree.specs.Trees.{choice_in, preorder, IsTree, AreLeavesOf, leaves_of}
use Rattle.dm_rows.specs.Sides.{first_decision, second_decision, is_ordered, is_first_decision, other_decision}
use Rattle.dm_tree.specs.Inside.Filling.{is_none_left, fills, leaves_due}
use Rattle.dm_tree.specs.Pending.{pending}
use Rattle.dm_tree.proofs.Filled.{both, some_more, one_back, tree_fills, leaves_filled}
use Rattle.dm_rows.proofs.Sides.{first_is_first, other_of_first}

pub pending_push : (path : List Decision) (d : Decision) →
    pending (path ++ d ∷ []) ≡ cond (is_first_decision d) ((path ++ other_decision d ∷ []) ∷ pending path) (pending path)
pending_push path d = simp (reverse-append, reverse-reverse)

-- what is due after a choice that is written in order
pub due_after_choice : (path : List Decision) (c : Choice) → is_ordered c ≡ true →
    pending (path ++ first_decision c ∷ []) ≡ (path ++ second_decision c ∷ []) ∷ pending path
due_after_choice path c o = rw (pending_push path (first_decision c), first_is_first c o, other_of_first c) refl

-- the nodes left are a tree at this path and one at each place due behind it, or none are left; with the leaves found so
-- far theirs are the leaves of all nodes
pub record FindsLeaves (nodes rest : List Node) (path : List Decision) (found : List Leaf) : Type 0 where
  pub same : found ++ leaves_due (path ∷ pending path) rest ≡ leaves_due ([] ∷ []) nodes
  pub left : (rest ≡ []) ⊎ (fills false (length (pending path)) rest ≡ true)

pub finds_at_first : (nodes : List Node) → IsTree nodes → FindsLeaves nodes nodes [] []
finds_at_first nodes t = record { same = refl; left = inr (tree_fills nodes t) }

filled_here : (n : Node) (rest : List Node) (more : ℕ) → ((n ∷ rest) ≡ []) ⊎ (fills false more (n ∷ rest) ≡ true) →
    fills false more (n ∷ rest) ≡ true
filled_here n rest more (inl e) = cc
filled_here n rest more (inr f) = f

pub is_inner : (n : Node) (c : Choice) → choice_in n ≡ Some c → n ≡ Inner c
is_inner (Inner c) d e = ap Inner (let same : c ≡ d = cc in same)
is_inner Cycle d e = cc
is_inner (Bound c) d e = cc
is_inner (Open c) d e = cc
is_inner Hole d e = cc

pub finds_choice : (nodes rest : List Node) (path : List Decision) (found : List Leaf) (n : Node) (c : Choice) →
    choice_in n ≡ Some c → FindsLeaves nodes (n ∷ rest) path found →
    FindsLeaves nodes rest (path ++ first_decision c ∷ []) found
finds_choice nodes rest path found n c e f = at_inner n (is_inner n c e) f
  where
    at_inner : (n : Node) → n ≡ Inner c → FindsLeaves nodes (n ∷ rest) path found →
        FindsLeaves nodes rest (path ++ first_decision c ∷ []) found
    at_inner n e f =
        let filled : fills false (length (pending path)) (Inner c ∷ rest) ≡ true =
        subst (λ x. fills false (length (pending path)) (x ∷ rest) ≡ true) e (filled_here n rest (length (pending path)) f.left) in
        let p = both (is_ordered c) (fills false (length (pending path) + 1) rest) filled in
        let due = due_after_choice path c p.0 in
        let same : found ++ leaves_due (path ∷ pending path) (Inner c ∷ rest) ≡ leaves_due ([] ∷ []) nodes =
        subst (λ x. found ++ leaves_due (path ∷ pending path) (x ∷ rest) ≡ leaves_due ([] ∷ []) nodes) e f.same in
        record {
          same = rw due same;
          left = inr (rw due (rw (← add-one (length (pending path))) p.1));
        }

leaf_found : (n : Node) (path : List Decision) (due : List (List Decision)) (rest : List Node) → choice_in n ≡ None →
    leaves_due (path ∷ due) (n ∷ rest) ≡ (record { path = path; node = n }) ∷ leaves_due due rest
leaf_found (Inner c) path due rest e = cc
leaf_found Cycle path due rest e = refl
leaf_found (Bound c) path due rest e = refl
leaf_found (Open c) path due rest e = refl
leaf_found Hole path due rest e = refl

leaf_fills : (n : Node) (more : ℕ) (rest : List Node) → choice_in n ≡ None → fills false more (n ∷ rest) ≡ true →
    cond (eqb more 0) (is_none_left rest) (fills false (more - 1) rest) ≡ true
leaf_fills (Inner c) more rest e f = cc
leaf_fills Cycle more rest e f = f
leaf_fills (Bound c) more rest e f = f
leaf_fills (Open c) more rest e f = f
leaf_fills Hole more rest e f = cc

pub none_left : (rest : List Node) → is_none_left rest ≡ true → rest ≡ []
none_left [] e = refl
none_left (n ∷ ns) e = cc

leaves_due_none : (due : List (List Decision)) → leaves_due due [] ≡ []
leaves_due_none [] = refl
leaves_due_none (p ∷ due) = refl

pub finds_leaf : (nodes rest : List Node) (path new : List Decision) (found : List Leaf) (n : Node) (turned : Bool) →
    choice_in n ≡ None → MatchBool turned (pending path ≡ new ∷ pending new) (pending path ≡ []) →
    FindsLeaves nodes (n ∷ rest) path found →
    FindsLeaves nodes rest new (found ++ (record { path = path; node = n }) ∷ [])
finds_leaf nodes rest path new found n true e due f =
    let here : Leaf = record { path = path; node = n } in
    let filled = leaf_fills n (length (pending path)) rest e (filled_here n rest (length (pending path)) f.left) in
    let count : length (pending path) ≡ length (pending new) + 1 = rw due (sym (add-one (length (pending new)))) in
    let same : found ++ (here ∷ leaves_due (pending path) rest) ≡ leaves_due ([] ∷ []) nodes =
    rw (← leaf_found n path (pending path) rest e) f.same in
    let here_same : found ++ (here ∷ leaves_due (new ∷ pending new) rest) ≡ leaves_due ([] ∷ []) nodes = rw (← due) same in
    record {
      same = rw (append_assoc found (here ∷ []) (leaves_due (new ∷ pending new) rest)) here_same;
      left = inr (rw (count, some_more (length (pending new)), one_back (length (pending new))) at filled);
    }
finds_leaf nodes rest path new found n false e due f =
    let here : Leaf = record { path = path; node = n } in
    let filled : fills false 0 (n ∷ rest) ≡ true =
    subst (λ xs. fills false (length xs) (n ∷ rest) ≡ true) due (filled_here n rest (length (pending path)) f.left) in
    let over : rest ≡ [] = none_left rest (leaf_fills n 0 rest e filled) in
    let same : found ++ (here ∷ leaves_due (pending path) rest) ≡ leaves_due ([] ∷ []) nodes =
    rw (← leaf_found n path (pending path) rest e) f.same in
    let here_same : found ++ (here ∷ []) ≡ leaves_due ([] ∷ []) nodes =
    subst (λ xs. found ++ (here ∷ xs) ≡ leaves_due ([] ∷ []) nodes) (leaves_due_none (pending path))
    (subst (λ xs. found ++ (here ∷ leaves_due (pending path) xs) ≡ leaves_due ([] ∷ []) nodes) over same) in
    record {
      same = rw (over, append-nil (found ++ here ∷ [])) here_same;
      left = inl over;
    }

pub all_found : (nodes rest : List Node) (path : List Decision) (found : List Leaf) → IsTree nodes → rest ≡ [] →
    FindsLeaves nodes rest path found → AreLeavesOf nodes found
all_found nodes rest path found t over f =
    let same : found ++ leaves_due (path ∷ pending path) [] ≡ leaves_due ([] ∷ []) nodes =
    subst (λ xs. found ++ leaves_due (path ∷ pending path) xs ≡ leaves_due ([] ∷ []) nodes) over f.same in
    let read : leaves_due ([] ∷ []) (preorder t.shape ++ []) ≡ leaves_of t.shape ++ [] =
    leaves_filled [] [] t.shape [] t.proper in
    let nodes_are : preorder t.shape ++ [] ≡ nodes = append-nil (preorder t.shape) ∙ t.in_preorder in
    let all : leaves_due ([] ∷ []) nodes ≡ leaves_of t.shape =
    subst (λ xs. leaves_due ([] ∷ []) xs ≡ leaves_of t.shape) nodes_are (read ∙ append-nil (leaves_of t.shape)) in
    record {
      shape = t.shape;
      in_preorder = t.in_preorder;
      proper = t.proper;
      listed = sym (append-nil found) ∙ (same ∙ all);
    }

-- one step of the walk, at the node that stands next
pub choice_step : (nodes : List Node) (i : ℕ) (d : Node) (path new : List Decision) (found : List Leaf) (c : Choice) →
    i < length nodes → Some c ≡ choice_in (get_or nodes i d) → new ≡ path ++ first_decision c ∷ [] →
    FindsLeaves nodes (drop i nodes) path found → FindsLeaves nodes (drop (i + 1) nodes) new found
choice_step nodes i d path new found c lt is e f =
    let here : FindsLeaves nodes (get_or nodes i d ∷ drop (i + 1) nodes) path found =
    subst (λ xs. FindsLeaves nodes xs path found) (drop_more nodes i d lt) f in
    rw e (finds_choice nodes (drop (i + 1) nodes) path found (get_or nodes i d) c (sym is) here)

pub leaf_step : (nodes : List Node) (i : ℕ) (d : Node) (path new : List Decision) (found more : List Leaf) (q : List Decision) (turned : Bool) →
    i < length nodes → None ≡ choice_in (get_or nodes i d) → q ≡ path →
    more ≡ found ++ (record { path = q; node = get_or nodes i d }) ∷ [] → MatchBool turned (pending path ≡ new ∷ pending new) (pending path ≡ []) →
    FindsLeaves nodes (drop i nodes) path found → FindsLeaves nodes (drop (i + 1) nodes) new more
leaf_step nodes i d path new found more q turned lt is p e due f =
    let here : FindsLeaves nodes (get_or nodes i d ∷ drop (i + 1) nodes) path found =
    subst (λ xs. FindsLeaves nodes xs path found) (drop_more nodes i d lt) f in
    rw (e, p) (finds_leaf nodes (drop (i + 1) nodes) path new found (get_or nodes i d) turned (sym is) due here)
