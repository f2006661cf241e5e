-- Nodes that fill one place with given leaves are a whole tree with these leaves, and the other way round.
use Rattle.std.proofs.Common.{◌≡◌, ℕ, suc, ◌+◌, ◌-◌, Bool, true, false, cond, eqb, List, [], ◌∷◌, ◌++◌, length, refl, sym, ap, subst, ◌∙◌, arith, add-one}
use Rattle.std.proofs.lemmas.Bool.{ne_eqb}
use Rattle.dm_rows.specs.declared.messages.Decision.{Decision}
use Rattle.dm_tree.specs.declared.forms.Node.{Node}
use Rattle.dm_tree.specs.declared.forms.Node.TheVariants.{Inner, Cycle, Bound, Open, Hole}
use Rattle.dm_tree.specs.declared.forms.Leaf.{Leaf}
use Rattle.dm_rows.specs.Sides.{first_decision, second_decision, is_ordered}
use Rattle.dm_tree.specs.Inside.Filling.{is_none_left, fills}
use Rattle.dm_tree.proofs.Filled.{both, whole_tree, tree_fills}
use Rattle.dm_cert.specs.PlanTexts.{leaves_at}
use Rattle.dm_cert.specs.PlansRead.{ShowsLeaves}
use Rattle.dm_cert.specs.Inside.Growing.{FillsDue, IsFirstLeaf}

-- a leaf at the first place, and what fills the others
abbrev fills_leaf : List (List Decision) → List Node → Bool
fills_leaf due ns = cond (eqb (length due) 0) (is_none_left ns) (fills false (length due - 1) ns)

abbrev leaf_at : List Decision → Node → Leaf
leaf_at path n = record { path = path; node = n }

some_due : (n : ℕ) → eqb (suc n) 0 ≡ false
some_due n = ne_eqb (suc n) 0 (λ e. absurd (omega arith))

one_less : (n : ℕ) → suc n - 1 ≡ n
one_less n = omega arith

pub leaf_same : (l : Leaf) (path : List Decision) (n : Node) → l.path ≡ path → l.node ≡ n → leaf_at path n ≡ l
leaf_same l path n p q = sym (ap (λ x. leaf_at x l.node) p ∙ ap (λ x. leaf_at path x) q)

leaf_to : (path : List Decision) (n : Node) (due : List (List Decision)) (ns : List Node) (leaves : List Leaf) → IsFirstLeaf path n leaves (FillsDue due ns) →
    ((q : List Decision) (d : List (List Decision)) (ls : List Leaf) → FillsDue (q ∷ d) ns ls → (fills false (length d) ns ≡ true) × (leaves_at (q ∷ d) ns ≡ ls)) →
    (fills_leaf due ns ≡ true) × (leaf_at path n ∷ leaves_at due ns ≡ leaves)
leaf_to path n due ns [] f ih = absurd f
leaf_to path n [] [] (l ∷ ls) f ih = (refl, let a = leaf_same l path n f.0 f.1 in let b = f.2 in cc)
leaf_to path n [] (m ∷ ns) (l ∷ ls) f ih = absurd f.2
leaf_to path n (q ∷ due) ns (l ∷ ls) f ih =
    let more = ih q due ls f.2 in
    (rw (some_due (length due), one_less (length due)) more.0, let a = leaf_same l path n f.0 f.1 in let b = more.1 in cc)

pub to_fills : (path : List Decision) (due : List (List Decision)) (nodes : List Node) (leaves : List Leaf) → FillsDue (path ∷ due) nodes leaves →
    (fills false (length due) nodes ≡ true) × (leaves_at (path ∷ due) nodes ≡ leaves)
to_fills path due [] leaves f = absurd f
to_fills path due (Inner c ∷ ns) leaves f =
    let more = to_fills (path ++ first_decision c ∷ []) ((path ++ second_decision c ∷ []) ∷ due) ns leaves f.1 in
    (rw (f.0, add-one (length due)) more.0, more.1)
to_fills path due (Cycle ∷ ns) leaves f = leaf_to path Cycle due ns leaves f (λ q d ls g. to_fills q d ns ls g)
to_fills path due (Bound c ∷ ns) leaves f = leaf_to path (Bound c) due ns leaves f (λ q d ls g. to_fills q d ns ls g)
to_fills path due (Open c ∷ ns) leaves f = leaf_to path (Open c) due ns leaves f (λ q d ls g. to_fills q d ns ls g)
to_fills path due (Hole ∷ ns) leaves f = absurd f

leaf_from : (path : List Decision) (n : Node) (due : List (List Decision)) (ns : List Node) → fills_leaf due ns ≡ true →
    ((q : List Decision) (d : List (List Decision)) → fills false (length d) ns ≡ true → FillsDue (q ∷ d) ns (leaves_at (q ∷ d) ns)) →
    IsFirstLeaf path n (leaf_at path n ∷ leaves_at due ns) (FillsDue due ns)
leaf_from path n [] [] e ih = (refl, refl, refl)
leaf_from path n [] (m ∷ ns) e ih = cc
leaf_from path n (q ∷ due) ns e ih = (refl, refl, ih q due (rw (some_due (length due), one_less (length due)) at e))

pub from_fills : (path : List Decision) (due : List (List Decision)) (nodes : List Node) → fills false (length due) nodes ≡ true → FillsDue (path ∷ due) nodes (leaves_at (path ∷ due) nodes)
from_fills path due [] e = cc
from_fills path due (Inner c ∷ ns) e =
    let p = both (is_ordered c) (fills false (length due + 1) ns) e in
    (p.0, from_fills (path ++ first_decision c ∷ []) ((path ++ second_decision c ∷ []) ∷ due) ns (rw (← add-one (length due)) p.1))
from_fills path due (Cycle ∷ ns) e = leaf_from path Cycle due ns e (λ q d g. from_fills q d ns g)
from_fills path due (Bound c ∷ ns) e = leaf_from path (Bound c) due ns e (λ q d g. from_fills q d ns g)
from_fills path due (Open c ∷ ns) e = leaf_from path (Open c) due ns e (λ q d g. from_fills q d ns g)
from_fills path due (Hole ∷ ns) e = cc

pub shows_from : (nodes : List Node) (leaves : List Leaf) → FillsDue ([] ∷ []) nodes leaves → ShowsLeaves leaves nodes
shows_from nodes leaves f = let p = to_fills [] [] nodes leaves f in record { is_tree = whole_tree nodes p.0; shown = p.1 }

pub fills_from : (nodes : List Node) (leaves : List Leaf) → ShowsLeaves leaves nodes → FillsDue ([] ∷ []) nodes leaves
fills_from nodes leaves s =
    subst (λ (ls : List Leaf). FillsDue ([] ∷ []) nodes ls) s.shown (from_fills [] [] nodes (tree_fills nodes s.is_tree))
