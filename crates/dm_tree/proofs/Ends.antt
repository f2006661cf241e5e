-- Where the trees within the nodes end.
use Rattle.std.proofs.Common.{◌≡◌, ℕ, zero, suc, ◌+◌, ◌-◌, ◌<◌, ◌≤◌, Bool, true, false, cond, List, [], ◌∷◌, ◌++◌, length, eqb, get_or, set, drop, refl, sym, ap, subst, ◌∙◌, ◌⊎◌, inl, inr, arith, Some, append_assoc, length-append, length-drop, get_or-set_same, get_or-set_other, length-set}
use Rattle.std.proofs.lemmas.Bool.{cases_lt, cases_eq}
use Rattle.std.proofs.lemmas.List.{drop_all, drop_more, get_or_read}
use Rattle.std.proofs.lemmas.Option.{get_or_from_slice_get, slice_get-get_or}
use Rattle.dm_rows.specs.declared.messages.Choice.{Choice}
use Rattle.dm_tree.specs.declared.forms.Child.{Child}
use Rattle.dm_tree.specs.declared.forms.Node.{Node}
use Rattle.dm_tree.specs.declared.forms.Node.TheVariants.{Inner, Cycle, Bound, Open, Hole}
use Rattle.dm_tree.specs.Trees.{Shape, leaf, branch, preorder, IsLeaf, IsNoHole, IsTreeBetween, IsProper, IsSecondChild, HasNoChoiceAt, LiesNotBelow, IsChildTowards}
use Rattle.dm_rows.specs.Sides.{IsOrdered, is_ordered}
use Rattle.dm_tree.specs.Inside.Filling.{is_none_left, fills, AreEndsFrom, IsSideOf}
use Rattle.dm_tree.proofs.Filled.{both, some_more, one_back, filled}
use Rattle.dm_rows.proofs.Sides.{ordered}

-- the nodes left at a place are one tree and some more after it
pub record IsFilledFrom (nodes : List Node) (i : ℕ) : Type 0 where
  pub more : ℕ
  pub fill : fills false more (drop i nodes) ≡ true

after_leaf : (more i : ℕ) (n : Node) (ns : List Node) (t : Bool) → t ≡ eqb more 0 →
    cond t (is_none_left ns) (fills false (more - 1) ns) ≡ true → i < length ns →
    (fills false (more - 1) ns ≡ true → IsFilledFrom ns i) → IsFilledFrom (n ∷ ns) (suc i)
after_leaf more i n [] true z e lt next = absurd (omega arith)
after_leaf more i n (m ∷ ns) true z e lt next = cc
after_leaf more i n ns false z e lt next = let f = next e in record { more = f.more; fill = f.fill }

pub filled_from : (more : ℕ) (nodes : List Node) (i : ℕ) → fills false more nodes ≡ true → i < length nodes →
    IsFilledFrom nodes i
filled_from more [] i e lt = cc
filled_from more (n ∷ ns) zero e lt = record { more = more; fill = e }
filled_from more (Inner c ∷ ns) (suc i) e lt =
    let p = both (is_ordered c) (fills false (more + 1) ns) e in
    let f = filled_from (more + 1) ns i p.1 (omega arith) in
    record { more = f.more; fill = f.fill }
filled_from more (Cycle ∷ ns) (suc i) e lt =
    after_leaf more i Cycle ns (eqb more 0) refl e (omega arith) (λ f. filled_from (more - 1) ns i f (omega arith))
filled_from more (Bound c ∷ ns) (suc i) e lt =
    after_leaf more i (Bound c) ns (eqb more 0) refl e (omega arith) (λ f. filled_from (more - 1) ns i f (omega arith))
filled_from more (Open c ∷ ns) (suc i) e lt =
    after_leaf more i (Open c) ns (eqb more 0) refl e (omega arith) (λ f. filled_from (more - 1) ns i f (omega arith))
filled_from more (Hole ∷ ns) (suc i) e lt = cc

-- after a tree the others are left
others_left : (nodes : List Node) (i s more : ℕ) → fills false (more + 1) (drop i nodes) ≡ true → IsTreeBetween nodes i s →
    fills false more (drop s nodes) ≡ true
others_left nodes i s more e t =
    let r : fills false (more + 1) (preorder t.shape ++ drop s nodes) ≡ true =
    subst (λ xs. fills false (more + 1) xs ≡ true) t.in_preorder e in
    let q : cond (eqb (more + 1) 0) (is_none_left (drop s nodes)) (fills false (more + 1 - 1) (drop s nodes)) ≡ true =
    sym (filled false t.shape (more + 1) (drop s nodes) t.proper (λ h. t.whole)) ∙ r in
    rw (some_more more, one_back more) at q

none_fill : (more : ℕ) → fills false more [] ≡ true → ⊥
none_fill more e = cc

-- nodes that fill a place are some
some_left : (nodes : List Node) (s more : ℕ) → fills false more (drop s nodes) ≡ true → s < length nodes
some_left nodes s more e =
    elim (cases_lt s (length nodes)) [
      | inl b ↦ b
      | inr q ↦ absurd (none_fill more (subst (λ xs. fills false more xs ≡ true) (drop_all s nodes q) e))
    ]

-- a tree ends behind the place where it begins
ends_later : (nodes : List Node) (i s : ℕ) → IsTreeBetween nodes i s → i < length nodes → i ≤ s
ends_later nodes i s t lt =
    let size : length (drop i nodes) ≡ length (preorder t.shape) + length (drop s nodes) =
    ap length t.in_preorder ∙ length-append (preorder t.shape) (drop s nodes) in
    let within : s ≤ length nodes = t.within in
    omega (arith, length-drop i nodes, length-drop s nodes)

-- a choice with the trees of its two children
pub record HasChildren (nodes : List Node) (ends : List ℕ) (place : ℕ) (c : Choice) : Type 0 where
  pub ordered : IsOrdered c
  pub first : place + 1 < length nodes
  pub second : get_or ends (place + 1) 0 < length nodes
  pub first_tree : IsTreeBetween nodes (place + 1) (get_or ends (place + 1) 0)
  pub second_tree : IsTreeBetween nodes (get_or ends (place + 1) 0) (get_or ends (get_or ends (place + 1) 0) 0)

here_and_after : (nodes : List Node) (place : ℕ) (d n : Node) → place < length nodes → get_or nodes place d ≡ n →
    drop place nodes ≡ n ∷ drop (place + 1) nodes
here_and_after nodes place d n lt is = drop_more nodes place d lt ∙ ap (λ x. x ∷ drop (place + 1) nodes) is

pub children : (nodes : List Node) (ends : List ℕ) (place : ℕ) (d : Node) (c : Choice) → fills false 0 nodes ≡ true →
    place < length nodes → get_or nodes place d ≡ Inner c → AreEndsFrom (place + 1) nodes ends →
    HasChildren nodes ends place c
children nodes ends place d c e lt is known =
    let f = filled_from 0 nodes place e lt in
    let q : fills false f.more (Inner c ∷ drop (place + 1) nodes) ≡ true =
    subst (λ xs. fills false f.more xs ≡ true) (here_and_after nodes place d (Inner c) lt is) f.fill in
    let p = both (is_ordered c) (fills false (f.more + 1) (drop (place + 1) nodes)) q in
    let first : place + 1 < length nodes = some_left nodes (place + 1) (f.more + 1) p.1 in
    let s : ℕ = get_or ends (place + 1) 0 in
    let first_tree : IsTreeBetween nodes (place + 1) s = known.1 (place + 1) (omega arith) first in
    let second : s < length nodes = some_left nodes s f.more (others_left nodes (place + 1) s f.more p.1 first_tree) in
    record {
      ordered = ordered c p.0;
      first = first;
      second = second;
      first_tree = first_tree;
      second_tree = known.1 s (ends_later nodes (place + 1) s first_tree first) second;
    }

-- a choice's tree ends where that of its second child does
pub branch_ends : (nodes : List Node) (ends : List ℕ) (place : ℕ) (d : Node) (c : Choice) → place < length nodes →
    get_or nodes place d ≡ Inner c → HasChildren nodes ends place c →
    IsTreeBetween nodes place (get_or ends (get_or ends (place + 1) 0) 0)
branch_ends nodes ends place d c lt is h =
    let a = h.first_tree in
    let b = h.second_tree in
    let last : ℕ = get_or ends (get_or ends (place + 1) 0) 0 in
    let below : drop (place + 1) nodes ≡ (preorder a.shape ++ preorder b.shape) ++ drop last nodes =
    a.in_preorder ∙ (ap (λ xs. preorder a.shape ++ xs) b.in_preorder
    ∙ sym (append_assoc (preorder a.shape) (preorder b.shape) (drop last nodes))) in
    record {
      shape = branch c a.shape b.shape;
      in_preorder = here_and_after nodes place d (Inner c) lt is ∙ ap (λ xs. Inner c ∷ xs) below;
      within = b.within;
      proper = (h.ordered, a.proper, b.proper);
      whole = (a.whole, b.whole);
    }

pub is_leaf : (n : Node) →
    (n ≡ Cycle) ⊎ (((x : ℕ) × (n ≡ Bound x)) ⊎ (((x : ℕ) × (n ≡ Open x)) ⊎ (n ≡ Hole))) → IsLeaf n
is_leaf n (inl e) = subst IsLeaf (sym e) tt
is_leaf n (inr (inl e)) = subst IsLeaf (sym e.1) tt
is_leaf n (inr (inr (inl e))) = subst IsLeaf (sym e.1) tt
is_leaf n (inr (inr (inr e))) = subst IsLeaf (sym e) tt

no_hole : (more : ℕ) (n : Node) (ns : List Node) → fills false more (n ∷ ns) ≡ true → IsNoHole n
no_hole more (Inner c) ns e = tt
no_hole more Cycle ns e = tt
no_hole more (Bound c) ns e = tt
no_hole more (Open c) ns e = tt
no_hole more Hole ns e = cc

-- a leaf ends at the next place
pub leaf_ends : (nodes : List Node) (place : ℕ) (d : Node) → fills false 0 nodes ≡ true → place < length nodes →
    IsLeaf (get_or nodes place d) → IsTreeBetween nodes place (place + 1)
leaf_ends nodes place d e lt l =
    let n : Node = get_or nodes place d in
    let f = filled_from 0 nodes place e lt in
    let here : drop place nodes ≡ n ∷ drop (place + 1) nodes = drop_more nodes place d lt in
    record {
      shape = leaf n;
      in_preorder = here;
      within = omega arith;
      proper = l;
      whole = no_hole f.more n (drop (place + 1) nodes) (subst (λ xs. fills false f.more xs ≡ true) here f.fill);
    }

pub leaf_is_no_choice : (c : Choice) → IsLeaf (Inner c) → ⊥
leaf_is_no_choice c l = l

pub no_choice : (nodes : List Node) (place : ℕ) (x : Node) → x ≡ get_or nodes place x → IsLeaf x → HasNoChoiceAt nodes place
no_choice nodes place x read l =
    λ c e. leaf_is_no_choice c (subst IsLeaf (read ∙ get_or_from_slice_get nodes place (Inner c) x e) l)

pub back_and_on : (nodes : List Node) (ends : List ℕ) (place : ℕ) → 0 < place → AreEndsFrom place nodes ends →
    AreEndsFrom (place - 1 + 1) nodes ends
back_and_on nodes ends place some known = (known.0, λ i low high. known.1 i (omega arith) high)

pub one_end_more : (nodes : List Node) (ends : List ℕ) (place e : ℕ) → place < length nodes → IsTreeBetween nodes place e →
    AreEndsFrom (place + 1) nodes ends → AreEndsFrom place nodes (set ends place e)
one_end_more nodes ends place e lt here known =
    let count : length ends ≡ length nodes = known.0 in (
      length-set ends place e ∙ count,
      λ i low high.
          elim (cases_eq i place) [
            | inl same ↦
                subst (λ (k : ℕ). IsTreeBetween nodes k (get_or (set ends place e) k 0)) (sym same)
                (subst (λ (k : ℕ). IsTreeBetween nodes place k) (sym (get_or-set_same ends place e 0 (omega arith))) here)
            | inr other ↦
                subst (λ (k : ℕ). IsTreeBetween nodes i k) (sym (get_or-set_other ends place i e 0 other)) (known.1 i (omega arith) high)
          ],
    )

-- at the front, where the places are walked from the back
pub ends_from_last : (nodes : List Node) (ends : List ℕ) (place e : ℕ) → 0 < place → place ≤ length nodes →
    IsTreeBetween nodes (place - 1) e → AreEndsFrom place nodes ends → AreEndsFrom (place - 1) nodes (set ends (place - 1) e)
ends_from_last nodes ends place e some within here known =
    one_end_more nodes ends (place - 1) e (omega arith) here (back_and_on nodes ends place some known)

pub no_ends : (nodes : List Node) (ends : List ℕ) → length ends ≡ length nodes → AreEndsFrom (length nodes) nodes ends
no_ends nodes ends size = (size, λ i low high. absurd (omega arith))

all_later : (nodes : List Node) (ends : List ℕ) (from : ℕ) → AreEndsFrom 0 nodes ends → AreEndsFrom from nodes ends
all_later nodes ends from known = (known.0, λ i low high. known.1 i (omega arith) high)

-- the children of a choice where all ends are known
pub known_children : (nodes : List Node) (ends : List ℕ) (place : ℕ) (x : Node) (c : Choice) → fills false 0 nodes ≡ true →
    place < length nodes → x ≡ get_or nodes place x → x ≡ Inner c → AreEndsFrom 0 nodes ends → HasChildren nodes ends place c
known_children nodes ends place x c e lt read is known =
    children nodes ends place x c e lt (sym read ∙ is) (all_later nodes ends (place + 1) known)

pub first_has_end : (nodes : List Node) (ends : List ℕ) (place : ℕ) (x : Node) (c : Choice) → fills false 0 nodes ≡ true →
    place < length nodes → x ≡ get_or nodes place x → x ≡ Inner c → AreEndsFrom 0 nodes ends → place + 1 < length ends
first_has_end nodes ends place x c e lt read is known =
    let h = known_children nodes ends place x c e lt read is known in
    let size : length ends ≡ length nodes = known.0 in
    omega (arith, h.first)

-- the second child stands where the first one's tree ends
pub second_stands : (nodes : List Node) (ends : List ℕ) (place : ℕ) (x : Node) (c : Choice) (s : ℕ) → fills false 0 nodes ≡ true →
    place < length nodes → x ≡ get_or nodes place x → x ≡ Inner c → s ≡ get_or ends (place + 1) s → AreEndsFrom 0 nodes ends →
    IsSecondChild nodes place s
second_stands nodes ends place x c s e lt read is kept known =
    let h = known_children nodes ends place x c e lt read is known in
    let place_is : s ≡ get_or ends (place + 1) 0 =
    get_or_read ends (place + 1) s (first_has_end nodes ends place x c e lt read is known) kept 0 in
    record {
      choice = c;
      stands = slice_get-get_or nodes place x lt ∙ ap Some (sym read ∙ is);
      first_tree = subst (λ k. IsTreeBetween nodes (place + 1) k) (sym place_is) h.first_tree;
      end = get_or ends (get_or ends (place + 1) 0) 0;
      second_tree = subst (λ k. IsTreeBetween nodes k (get_or ends (get_or ends (place + 1) 0) 0)) (sym place_is) h.second_tree;
    }

pub same_tail : (m n : Node) (x y : List Node) → (m ∷ x) ≡ (n ∷ y) → x ≡ y
same_tail m n x y e = cc

pub same_head : (m n : Node) (x y : List Node) → (m ∷ x) ≡ (n ∷ y) → m ≡ n
same_head m n x y e = cc

-- what follows a tree is fixed by the nodes
pub one_tree : (a b : Shape) (x y : List Node) → IsProper a → IsProper b → preorder a ++ x ≡ preorder b ++ y → x ≡ y
one_tree (leaf m) (leaf n) x y p q e = same_tail m n x y e
one_tree (leaf m) (branch c a b) x y p q e = absurd (leaf_is_no_choice c (subst IsLeaf (same_head m (Inner c) x _ e) p))
one_tree (branch c a b) (leaf m) x y p q e = absurd (leaf_is_no_choice c (subst IsLeaf (sym (same_head (Inner c) m _ y e)) q))
one_tree (branch c a b) (branch d u v) x y p q e =
    let rest : (preorder a ++ preorder b) ++ x ≡ (preorder u ++ preorder v) ++ y =
    same_tail (Inner c) (Inner d) ((preorder a ++ preorder b) ++ x) ((preorder u ++ preorder v) ++ y) e in
    one_tree b v x y p.2 q.2
    (one_tree a u (preorder b ++ x) (preorder v ++ y) p.1 q.1
    (sym (append_assoc (preorder a) (preorder b) x) ∙ (rest ∙ append_assoc (preorder u) (preorder v) y)))

-- the tree that begins at a place has one end
pub one_end : (nodes : List Node) (i e f : ℕ) → IsTreeBetween nodes i e → IsTreeBetween nodes i f → e ≡ f
one_end nodes i e f t u =
    let same : drop e nodes ≡ drop f nodes =
    one_tree t.shape u.shape (drop e nodes) (drop f nodes) t.proper u.proper (sym t.in_preorder ∙ u.in_preorder) in
    let size : length (drop e nodes) ≡ length (drop f nodes) = ap length same in
    let a : e ≤ length nodes = t.within in
    let b : f ≤ length nodes = u.within in
    omega (arith, length-drop e nodes, length-drop f nodes)

pub not_before : (nodes : List Node) (place target : ℕ) → target ≤ place → LiesNotBelow nodes place target
not_before nodes place target le l = let a : place ≤ target = l.from_root in omega arith

pub not_outside : (nodes : List Node) (place target : ℕ) → length nodes ≤ place → LiesNotBelow nodes place target
not_outside nodes place target le l =
    let a : place ≤ target = l.from_root in
    let b : target < l.end = l.before_end in
    let c : l.end ≤ length nodes = l.tree.within in
    absurd (omega arith)

pub not_behind : (nodes : List Node) (place target e : ℕ) → IsTreeBetween nodes place e → e ≤ target → LiesNotBelow nodes place target
not_behind nodes place target e t le l =
    let same : l.end ≡ e = one_end nodes place l.end e l.tree t in
    let b : target < l.end = l.before_end in
    absurd (omega arith)

pub not_below_leaf : (nodes : List Node) (place target : ℕ) (x : Node) → fills false 0 nodes ≡ true → place < length nodes →
    x ≡ get_or nodes place x → IsLeaf x → LiesNotBelow nodes place target
not_below_leaf nodes place target x e lt read is l =
    let same : l.end ≡ place + 1 =
    one_end nodes place l.end (place + 1) l.tree (leaf_ends nodes place x e lt (subst IsLeaf read is)) in
    let a : place ≤ target = l.from_root in
    let b : target < l.end = l.before_end in
    omega arith

pub kept_end : (nodes : List Node) (ends : List ℕ) (place r : ℕ) → AreEndsFrom 0 nodes ends → place < length nodes →
    r ≡ get_or ends place r → r ≡ get_or ends place 0
kept_end nodes ends place r known lt read =
    let size : length ends ≡ length nodes = known.0 in get_or_read ends place r (omega arith) read 0

pub not_behind_kept : (nodes : List Node) (ends : List ℕ) (place target r : ℕ) → AreEndsFrom 0 nodes ends → place < length nodes →
    r ≡ get_or ends place r → r ≤ target → LiesNotBelow nodes place target
not_behind_kept nodes ends place target r known lt read le =
    let is : r ≡ get_or ends place 0 = kept_end nodes ends place r known lt read in
    not_behind nodes place target (get_or ends place 0) (known.1 place (omega arith) lt) (omega arith)

-- the child whose tree the target lies in
pub towards : (nodes : List Node) (ends : List ℕ) (place target : ℕ) (x : Node) (c : Choice) (s : ℕ) (child : Child) →
    fills false 0 nodes ≡ true → place < length nodes → x ≡ get_or nodes place x → x ≡ Inner c → s ≡ get_or ends (place + 1) s →
    AreEndsFrom 0 nodes ends → place < target → (r : ℕ) → r ≡ get_or ends place r → target < r → IsSideOf c place s target child →
    IsChildTowards nodes place target child
towards nodes ends place target x c s child e lt read is kept known behind r read_end before (inl side) =
    let h = known_children nodes ends place x c e lt read is known in
    let place_is : s ≡ get_or ends (place + 1) 0 =
    get_or_read ends (place + 1) s (first_has_end nodes ends place x c e lt read is known) kept 0 in
    let there : child.place ≡ place + 1 = side.2 in
    record {
      is_child = record {
        choice = c;
        stands = slice_get-get_or nodes place x lt ∙ ap Some (sym read ∙ is);
        side = inl (side.1, side.2);
      };
      below = record {
        end = get_or ends (place + 1) 0;
        tree = subst (λ (k : ℕ). IsTreeBetween nodes k (get_or ends (place + 1) 0)) (sym there) h.first_tree;
        from_root = omega arith;
        before_end = let t : target < s = side.0 in omega arith;
      };
    }
towards nodes ends place target x c s child e lt read is kept known behind r read_end before (inr side) =
    let h = known_children nodes ends place x c e lt read is known in
    let place_is : s ≡ get_or ends (place + 1) 0 =
    get_or_read ends (place + 1) s (first_has_end nodes ends place x c e lt read is known) kept 0 in
    let there : child.place ≡ s = side.2 in
    let last : ℕ = get_or ends (get_or ends (place + 1) 0) 0 in
    let end_is : r ≡ get_or ends place 0 = kept_end nodes ends place r known lt read_end in
    let same : get_or ends place 0 ≡ last =
    one_end nodes place (get_or ends place 0) last (known.1 place (omega arith) lt)
    (branch_ends nodes ends place x c lt (sym read ∙ is) h) in
    record {
      is_child = record {
        choice = c;
        stands = slice_get-get_or nodes place x lt ∙ ap Some (sym read ∙ is);
        side = inr (side.1, subst (λ (k : ℕ). IsSecondChild nodes place k) (sym there) (second_stands nodes ends place x c s e lt read is kept known));
      };
      below = record {
        end = last;
        tree = subst (λ (k : ℕ). IsTreeBetween nodes k last) (sym (there ∙ place_is)) h.second_tree;
        from_root = let t : s ≤ target = side.0 in omega arith;
        before_end = omega arith;
      };
    }
