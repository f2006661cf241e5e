-- Nodes that fill the places due are trees in preorder, and trees in preorder fill them.
use Rattle.std.proofs.Common.{◌≡◌, ◌≢◌, ℕ, ◌+◌, ◌-◌, Bool, true, false, cond, ◌&&◌, List, [], ◌∷◌, ◌++◌, length, eqb, refl, sym, ap, ◌∙◌, arith, eqb-true, append_assoc, append-nil}
use Rattle.std.proofs.lemmas.Bool.{ne_eqb}
use Rattle.std.proofs.lemmas.Bool.Decides.{nat_tests}
use Rattle.dm_rows.specs.declared.messages.Choice.{Choice}
use Rattle.dm_rows.specs.declared.messages.Decision.{Decision}
use Rattle.dm_tree.specs.declared.forms.Node.{Node}
use Rattle.dm_tree.specs.declared.forms.Node.TheVariants.{Inner, Cycle, Bound, Open, Hole}
use Rattle.dm_tree.specs.declared.forms.Leaf.{Leaf}
use Rattle.dm_tree.specs.Trees.{Shape, leaf, branch, preorder, IsLeaf, IsNoHole, IsProper, IsWhole, IsTree, IsPartialTree, leaves_below}
use Rattle.dm_rows.specs.Sides.{IsOrdered, first_decision, second_decision, is_ordered}
use Rattle.dm_rows.proofs.Sides.{ordered, ordered_tells}
use Rattle.dm_tree.specs.Inside.Filling.{is_none_left, fills, leaves_due}

-- the nodes of several trees, one after another
abbrev pub preorders : List Shape → List Node
preorders [] = []
preorders (t ∷ ts) = preorder t ++ preorders ts

abbrev pub AllProper : List Shape → Type 0
AllProper [] = Unit {0}
AllProper (t ∷ ts) = IsProper t × AllProper ts

abbrev pub AllWhole : List Shape → Type 0
AllWhole [] = Unit {0}
AllWhole (t ∷ ts) = IsWhole t × AllWhole ts

-- the nodes are one tree and so many more after it
pub record Forest (holes : Bool) (more : ℕ) (nodes : List Node) : Type 0 where
  pub head : Shape
  pub others : List Shape
  pub reads : preorder head ++ preorders others ≡ nodes
  pub count : length others ≡ more
  pub proper : IsProper head × AllProper others
  pub whole : holes ≡ false → IsWhole head × AllWhole others

pub both : (a b : Bool) → (a && b) ≡ true → (a ≡ true) × (b ≡ true)
both true b e = (refl, e)
both false b e = cc

not_zero : (more : ℕ) → false ≡ eqb more 0 → more ≢ 0
not_zero more e = grind (arith, nat_tests)

leaf_first : (holes : Bool) (more : ℕ) (n : Node) (ns : List Node) → IsLeaf n → (holes ≡ false → IsNoHole n) →
    (t : Bool) → t ≡ eqb more 0 → cond t (is_none_left ns) (fills holes (more - 1) ns) ≡ true →
    (fills holes (more - 1) ns ≡ true → Forest holes (more - 1) ns) → Forest holes more (n ∷ ns)
leaf_first holes more n [] l w true z e next =
    record {
      head = leaf n;
      others = [];
      reads = refl;
      count = sym (eqb-true more 0 (sym z));
      proper = (l, tt);
      whole = λ h. (w h, tt);
    }
leaf_first holes more n (m ∷ ns) l w true z e next = cc
leaf_first holes more n ns l w false z e next =
    let f = next e in
    let some : more ≢ 0 = not_zero more z in
    let c : length f.others ≡ more - 1 = f.count in
    record {
      head = leaf n;
      others = f.head ∷ f.others;
      reads = ap (λ xs. n ∷ xs) f.reads;
      count = omega arith;
      proper = (l, f.proper);
      whole = λ h. (w h, f.whole h);
    }

branch_first : (holes : Bool) (more : ℕ) (c : Choice) (ns : List Node) → IsOrdered c →
    (a : Shape) (others : List Shape) → preorder a ++ preorders others ≡ ns → length others ≡ more + 1 →
    IsProper a × AllProper others → (holes ≡ false → IsWhole a × AllWhole others) → Forest holes more (Inner c ∷ ns)
branch_first holes more c ns o a [] reads count proper whole = absurd (omega arith)
branch_first holes more c ns o a (b ∷ rest) reads count proper whole =
    record {
      head = branch c a b;
      others = rest;
      reads = ap (λ xs. Inner c ∷ xs) (append_assoc (preorder a) (preorder b) (preorders rest) ∙ reads);
      count = omega arith;
      proper = ((o, proper.0, proper.1.0), proper.1.1);
      whole = λ h. (((whole h).0, (whole h).1.0), (whole h).1.1);
    }

pub forest : (holes : Bool) (more : ℕ) (nodes : List Node) → fills holes more nodes ≡ true → Forest holes more nodes
forest holes more [] e = cc
forest holes more (Inner c ∷ ns) e =
    let p = both (is_ordered c) (fills holes (more + 1) ns) e in
    let f = forest holes (more + 1) ns p.1 in
    branch_first holes more c ns (ordered c p.0) f.head f.others f.reads f.count f.proper f.whole
forest holes more (Cycle ∷ ns) e = leaf_first holes more Cycle ns tt (λ h. tt) (eqb more 0) refl e (λ f. forest holes (more - 1) ns f)
forest holes more (Bound c ∷ ns) e = leaf_first holes more (Bound c) ns tt (λ h. tt) (eqb more 0) refl e (λ f. forest holes (more - 1) ns f)
forest holes more (Open c ∷ ns) e = leaf_first holes more (Open c) ns tt (λ h. tt) (eqb more 0) refl e (λ f. forest holes (more - 1) ns f)
forest true more (Hole ∷ ns) e = leaf_first true more Hole ns tt (λ h. cc) (eqb more 0) refl e (λ f. forest true (more - 1) ns f)
forest false more (Hole ∷ ns) e = cc

lone : (others : List Shape) → length others ≡ 0 → preorders others ≡ []
lone [] e = refl
lone (t ∷ ts) e = absurd (omega arith)

append_none : (xs ys : List Node) → ys ≡ [] → xs ++ ys ≡ xs
append_none xs ys e = rw e (append-nil xs)

-- nodes that fill one place are a tree, whole where there are no holes
record IsOneTree (holes : Bool) (nodes : List Node) : Type 0 where
  shape : Shape
  in_preorder : preorder shape ≡ nodes
  proper : IsProper shape
  whole : holes ≡ false → IsWhole shape

one_tree : (holes : Bool) (nodes : List Node) → fills holes 0 nodes ≡ true → IsOneTree holes nodes
one_tree holes nodes e =
    let f = forest holes 0 nodes e in
    record {
      shape = f.head;
      in_preorder = sym (append_none (preorder f.head) (preorders f.others) (lone f.others f.count)) ∙ f.reads;
      proper = f.proper.0;
      whole = λ h. (f.whole h).0;
    }

pub whole_tree : (nodes : List Node) → fills false 0 nodes ≡ true → IsTree nodes
whole_tree nodes e =
    let t = one_tree false nodes e in record { shape = t.shape; in_preorder = t.in_preorder; proper = t.proper; whole = t.whole refl }

pub partial_tree : (nodes : List Node) → fills true 0 nodes ≡ true → IsPartialTree nodes
partial_tree nodes e = let t = one_tree true nodes e in record { shape = t.shape; in_preorder = t.in_preorder; proper = t.proper }

pub some_more : (more : ℕ) → eqb (more + 1) 0 ≡ false
some_more more = ne_eqb (more + 1) 0 (λ e. omega arith)

pub one_back : (more : ℕ) → more + 1 - 1 ≡ more
one_back more = omega arith

-- a tree fills one place, and leaves the others to what follows
pub filled : (holes : Bool) (t : Shape) (more : ℕ) (ns : List Node) → IsProper t → (holes ≡ false → IsWhole t) →
    fills holes more (preorder t ++ ns) ≡ cond (eqb more 0) (is_none_left ns) (fills holes (more - 1) ns)
filled holes (leaf (Inner c)) more ns p w = elim p [ ]
filled holes (leaf Cycle) more ns p w = refl
filled holes (leaf (Bound c)) more ns p w = refl
filled holes (leaf (Open c)) more ns p w = refl
filled true (leaf Hole) more ns p w = refl
filled false (leaf Hole) more ns p w = absurd (w refl)
filled holes (branch c a b) more ns p w =
    rw (ordered_tells c p.0, append_assoc (preorder a) (preorder b) ns)
    (filled holes a (more + 1) (preorder b ++ ns) p.1 (λ h. (w h).0)
    ∙ rw (some_more more, one_back more) (filled holes b more ns p.2 (λ h. (w h).1)))

pub tree_fills : (nodes : List Node) → IsTree nodes → fills false 0 nodes ≡ true
tree_fills nodes t =
    rw (← t.in_preorder) (rw (← append-nil (preorder t.shape)) (filled false t.shape 0 [] t.proper (λ h. t.whole)))

-- what holds of every node but an inner one holds of a leaf
pub at_leaf : (P : Node → Type 0) → P Cycle → ((c : ℕ) → P (Bound c)) → ((c : ℕ) → P (Open c)) → P Hole → (n : Node) → IsProper (leaf n) → P n
at_leaf P cycle bound opened hole (Inner c) p = elim p [ ]
at_leaf P cycle bound opened hole Cycle p = cycle
at_leaf P cycle bound opened hole (Bound c) p = bound c
at_leaf P cycle bound opened hole (Open c) p = opened c
at_leaf P cycle bound opened hole Hole p = hole

-- What is listed of nodes read from the left, where the paths of the places due are known: what is listed below each place, one
-- after the other. After a choice the places of its children are due next.
module _ (listed : List (List Decision) → List Node → List Leaf) (below : List Decision → Shape → List Leaf)
    (front : List Decision → Choice → List Leaf)
    (of_leaf : (path : List Decision) (due : List (List Decision)) (n : Node) (ns : List Node) → IsProper (leaf n) →
    listed (path ∷ due) (n ∷ ns) ≡ below path (leaf n) ++ listed due ns)
    (of_choice : (path : List Decision) (due : List (List Decision)) (c : Choice) (ns : List Node) →
    listed (path ∷ due) (Inner c ∷ ns)
    ≡ front path c ++ listed ((path ++ first_decision c ∷ []) ∷ (path ++ second_decision c ∷ []) ∷ due) ns)
    (of_branch : (path : List Decision) (c : Choice) (a b : Shape) →
    below path (branch c a b) ≡ front path c ++ (below (path ++ first_decision c ∷ []) a ++ below (path ++ second_decision c ∷ []) b)) where
  pub tree_by_tree : (path : List Decision) (due : List (List Decision)) (t : Shape) (ns : List Node) → IsProper t →
      listed (path ∷ due) (preorder t ++ ns) ≡ below path t ++ listed due ns
  tree_by_tree path due (leaf n) ns p = of_leaf path due n ns p
  tree_by_tree path due (branch c a b) ns p =
      let first = path ++ first_decision c ∷ [] in
      let second = path ++ second_decision c ∷ [] in
      rw (append_assoc (preorder a) (preorder b) ns)
      (of_choice path due c (preorder a ++ (preorder b ++ ns))
      ∙ ap (λ xs. front path c ++ xs)
      (tree_by_tree first (second ∷ due) a (preorder b ++ ns) p.1
      ∙ ap (λ xs. below first a ++ xs) (tree_by_tree second due b ns p.2)
      ∙ sym (append_assoc (below first a) (below second b) (listed due ns)))
      ∙ sym (append_assoc (front path c) (below first a ++ below second b) (listed due ns))
      ∙ ap (λ xs. xs ++ listed due ns) (sym (of_branch path c a b)))

-- the leaves at the places due are those of the trees that fill them
pub leaves_filled : (path : List Decision) (due : List (List Decision)) (t : Shape) (ns : List Node) → IsProper t →
    leaves_due (path ∷ due) (preorder t ++ ns) ≡ leaves_below path t ++ leaves_due due ns
leaves_filled =
    tree_by_tree leaves_due leaves_below (λ q c. [])
    (λ q ds n ms. at_leaf (λ m. leaves_due (q ∷ ds) (m ∷ ms) ≡ leaves_below q (leaf m) ++ leaves_due ds ms) refl (λ c. refl) (λ c. refl) refl n)
    (λ q ds c ms. refl) (λ q c a b. refl)
