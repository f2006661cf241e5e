-- What stands at the paths of a tree.
use Rattle.std.proofs.Common.{◌≡◌, List, [], ◌∷◌, ◌++◌, refl, sym, ap, subst, ◌∙◌, ◌⊎◌, inl, inr, arith, append_assoc, append-nil}
use Rattle.std.specs.Prelude.{Contains}
use Rattle.std.proofs.lemmas.List.Elements.{Contains-append_left, Contains-append_right, Contains-append_cases, Contains-push_cases}
use Rattle.dm_rows.specs.declared.messages.Decision.{Decision}
use Rattle.dm_rows.specs.Decide.{choice_of}
use Rattle.dm_tree.specs.declared.forms.Node.{Node}
use Rattle.dm_tree.specs.declared.forms.Node.TheVariants.{Inner}
use Rattle.dm_tree.specs.declared.forms.Leaf.{Leaf}
use Rattle.dm_tree.specs.Trees.{Shape, leaf, branch, preorder, IsProper, StandsAt}
use Rattle.dm_rows.specs.Sides.{IsOrdered, first_decision, second_decision}
use Rattle.dm_tree.specs.Inside.Filling.{visits}
use Rattle.dm_tree.proofs.Filled.{at_leaf, tree_by_tree}
use Rattle.dm_rows.proofs.Sides.{first_decides, second_decides, two_decisions}

-- one node stands at a path
pub one_stands : (t : Shape) (path : List Decision) (m n : Node) → IsProper t → StandsAt t path m → StandsAt t path n → m ≡ n
one_stands (leaf x) [] m n p s r = sym s ∙ r
one_stands (leaf x) (d ∷ path) m n p s r = elim s [ ]
one_stands (branch c a b) [] m n p s r = sym s ∙ r
one_stands (branch c a b) (d ∷ path) m n p (inl s) (inl r) = one_stands a path m n p.1 s.1 r.1
one_stands (branch c a b) (d ∷ path) m n p (inl s) (inr r) = absurd (two_decisions c p.0 (sym s.0 ∙ r.0))
one_stands (branch c a b) (d ∷ path) m n p (inr s) (inl r) = absurd (two_decisions c p.0 (sym r.0 ∙ s.0))
one_stands (branch c a b) (d ∷ path) m n p (inr s) (inr r) = one_stands b path m n p.2 s.1 r.1

-- above a node stands the choice that the next decision decides, written in order
pub stands_above : (t : Shape) (path rest : List Decision) (d : Decision) (n : Node) → IsProper t →
    StandsAt t (path ++ d ∷ rest) n → StandsAt t path (Inner (choice_of d)) × IsOrdered (choice_of d)
stands_above (leaf x) [] rest d n p s = elim s [ ]
stands_above (leaf x) (e ∷ path) rest d n p s = elim s [ ]
stands_above (branch c a b) [] rest d n p (inl s) =
    let same : choice_of d ≡ c = ap choice_of s.0 ∙ first_decides c p.0 in
    (ap Inner (sym same), subst IsOrdered (sym same) p.0)
stands_above (branch c a b) [] rest d n p (inr s) =
    let same : choice_of d ≡ c = ap choice_of s.0 ∙ second_decides c p.0 in
    (ap Inner (sym same), subst IsOrdered (sym same) p.0)
stands_above (branch c a b) (e ∷ path) rest d n p (inl s) =
    let r = stands_above a path rest d n p.1 s.1 in (inl (s.0, r.0), r.1)
stands_above (branch c a b) (e ∷ path) rest d n p (inr s) =
    let r = stands_above b path rest d n p.2 s.1 in (inr (s.0, r.0), r.1)

-- all that stands in a tree at a path, in preorder
abbrev pub visits_below : List Decision → Shape → List Leaf
visits_below path (leaf n) = (record { path = path; node = n }) ∷ []
visits_below path (branch c a b) =
    (record { path = path; node = Inner c })
    ∷ visits_below (path ++ first_decision c ∷ []) a ++ visits_below (path ++ second_decision c ∷ []) b

pub visits_filled : (path : List Decision) (due : List (List Decision)) (t : Shape) (ns : List Node) → IsProper t →
    visits (path ∷ due) (preorder t ++ ns) ≡ visits_below path t ++ visits due ns
visits_filled =
    tree_by_tree visits visits_below (λ q c. (record { path = q; node = Inner c }) ∷ [])
    (λ q ds n ms. at_leaf (λ m. visits (q ∷ ds) (m ∷ ms) ≡ visits_below q (leaf m) ++ visits ds ms) refl (λ c. refl) (λ c. refl) refl n)
    (λ q ds c ms. refl) (λ q c a b. refl)

in_front : (x : Leaf) (xs : List Leaf) → Contains (x ∷ xs) x
in_front x xs = (0, omega arith, refl)

behind_front : (x y : Leaf) (xs : List Leaf) → Contains xs y → Contains (x ∷ xs) y
behind_front x y xs h = Contains-append_right (x ∷ []) xs y h

front_or_behind : (x y : Leaf) (xs : List Leaf) → Contains (x ∷ xs) y → (x ≡ y) ⊎ Contains xs y
front_or_behind x y xs h =
    elim (Contains-append_cases (x ∷ []) xs y h) [ inl s ↦ inl (alone x y s) | inr r ↦ inr r ]
  where
    alone : (x y : Leaf) → Contains (x ∷ []) y → x ≡ y
    alone x y h = elim (Contains-push_cases [] x y h) [ inl r ↦ absurd (omega (arith, r.1)) | inr e ↦ e ]

-- the path of what stands below a child begins with the child's decision
below_child : (path : List Decision) (child d : Decision) (t : Shape) (q : List Decision) (n : Node) → d ≡ child →
    Contains (visits_below (path ++ child ∷ []) t) (record { path = (path ++ child ∷ []) ++ q; node = n }) →
    Contains (visits_below (path ++ child ∷ []) t) (record { path = path ++ d ∷ q; node = n })
below_child path child d t q n is among =
    let e : (path ++ child ∷ []) ++ q ≡ path ++ d ∷ q = rw is (append_assoc path (child ∷ []) q) in
    subst (λ p. Contains (visits_below (path ++ child ∷ []) t) (record { path = p; node = n })) e among

pub stands_among : (path : List Decision) (t : Shape) (q : List Decision) (n : Node) → StandsAt t q n →
    Contains (visits_below path t) (record { path = path ++ q; node = n })
stands_among path (leaf x) [] n s = rw (append-nil path, ← s) (in_front (record { path = path; node = x }) [])
stands_among path (leaf x) (d ∷ q) n s = elim s [ ]
stands_among path (branch c a b) [] n s =
    rw (append-nil path, ← s) (in_front (record { path = path; node = Inner c }) _)
stands_among path (branch c a b) (d ∷ q) n (inl s) =
    let here : Leaf = record { path = path ++ d ∷ q; node = n } in
    behind_front (record { path = path; node = Inner c }) here _
    (Contains-append_left (visits_below (path ++ first_decision c ∷ []) a) (visits_below (path ++ second_decision c ∷ []) b) here
    (below_child path (first_decision c) d a q n s.0 (stands_among (path ++ first_decision c ∷ []) a q n s.1)))
stands_among path (branch c a b) (d ∷ q) n (inr s) =
    let here : Leaf = record { path = path ++ d ∷ q; node = n } in
    behind_front (record { path = path; node = Inner c }) here _
    (Contains-append_right (visits_below (path ++ first_decision c ∷ []) a) (visits_below (path ++ second_decision c ∷ []) b) here
    (below_child path (second_decision c) d b q n s.0 (stands_among (path ++ second_decision c ∷ []) b q n s.1)))

-- and all that stands there has such a path
pub record IsBelow (path : List Decision) (t : Shape) (l : Leaf) : Type 0 where
  pub rest : List Decision
  pub is : l.path ≡ path ++ rest
  pub stands : StandsAt t rest l.node

pub among_stands : (path : List Decision) (t : Shape) (l : Leaf) → Contains (visits_below path t) l → IsBelow path t l
among_stands path (leaf x) l h =
    elim (front_or_behind (record { path = path; node = x }) l [] h) [
      | inl e ↦
          record {
            rest = [];
            is = sym (ap (λ (y : Leaf). y.path) e) ∙ sym (append-nil path);
            stands = ap (λ (y : Leaf). y.node) e;
          }
      | inr r ↦ absurd (omega (arith, r.1))
    ]
among_stands path (branch c a b) l h =
    elim (front_or_behind (record { path = path; node = Inner c }) l _ h) [
      | inl e ↦
          record {
            rest = [];
            is = sym (ap (λ (y : Leaf). y.path) e) ∙ sym (append-nil path);
            stands = ap (λ (y : Leaf). y.node) e;
          }
      | inr r ↦ elim (Contains-append_cases _ _ l r) [
        | inl s ↦ from_child (first_decision c) a (λ rest h. inl (refl, h)) (among_stands (path ++ first_decision c ∷ []) a l s)
        | inr s ↦ from_child (second_decision c) b (λ rest h. inr (refl, h)) (among_stands (path ++ second_decision c ∷ []) b l s)
      ]
    ]
  where
    from_child : (d : Decision) (t : Shape) → ((rest : List Decision) → StandsAt t rest l.node → StandsAt (branch c a b) (d ∷ rest) l.node) →
        IsBelow (path ++ d ∷ []) t l → IsBelow path (branch c a b) l
    from_child d t above s =
        record { rest = d ∷ s.rest; is = s.is ∙ append_assoc path (d ∷ []) s.rest; stands = above s.rest s.stands }
