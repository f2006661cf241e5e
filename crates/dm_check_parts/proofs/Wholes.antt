-- A part is true exactly where its share, its tree, its nodes and its bound are.
use Rattle.std.proofs.Common.{◌≡◌, Bool, true, false, List, [], ◌∷◌, ◌++◌, map, sym, subst, ◌∙◌, inl, inr}
use Rattle.std.specs.Prelude.{All}
use Rattle.std.proofs.lemmas.List.Elements.{All-nil, All-cons, All-head, All-tail, All-contains}
use Rattle.dm_rows.specs.declared.messages.Decision.{Decision}
use Rattle.dm_tree.specs.declared.forms.Node.{Node}
use Rattle.dm_tree.specs.declared.forms.Node.TheVariants.{Inner, Cycle, Bound, Open, Hole}
use Rattle.dm_tree.specs.Plans.{Task, IsLeastOfLeaves}
use Rattle.dm_tree.specs.Trees.{Shape, leaf, branch, preorder, IsNoHole, IsWhole, IsTree, StandsAt}
use Rattle.dm_parts.specs.declared.parts.Part.{Part}
use Rattle.dm_parts.specs.declared.parts.PartNode.{PartNode}
use Rattle.dm_parts.specs.declared.parts.PartNode.TheVariants.{Inner as InnerNode, Cycle as CycleNode, Leaf}
use Rattle.dm_parts.specs.Parts.{as_node, IsTruePart}
use Rattle.dm_parts.specs.Shares.{IsShare}
use Rattle.dm_check_rows.specs.Claims.{Tells}
use Rattle.dm_check_plans.specs.Visiting.{HoldsOfAll, IsLeastCarried}
use Rattle.dm_check_plans.proofs.Whole.{placed, node_true, nodes_true, least_bound, bound_reached, none_below}
use Rattle.dm_check_parts.specs.Inside.Nodes.{IsTruePartNode}

-- ---- the nodes of parts

-- no open leaf and no hole
abbrev IsOfPart : Node → Type 0
IsOfPart (Inner c) = Unit {0}
IsOfPart Cycle = Unit {0}
IsOfPart (Bound c) = Unit {0}
IsOfPart (Open c) = ⊥
IsOfPart Hole = ⊥

one_of_part : (n : PartNode) → IsOfPart (as_node n)
one_of_part (InnerNode c) = tt
one_of_part CycleNode = tt
one_of_part (Leaf c) = tt

all_of_part : (nodes : List PartNode) → All IsOfPart (map as_node nodes)
all_of_part [] = All-nil IsOfPart
all_of_part (n ∷ nodes) = All-cons IsOfPart (as_node n) (map as_node nodes) (one_of_part n) (all_of_part nodes)

front_holds : (P : Node → Type 0) (xs ys : List Node) → All P (xs ++ ys) → All P xs
front_holds P [] ys h = All-nil P
front_holds P (x ∷ xs) ys h = All-cons P x xs (All-head P x (xs ++ ys) h) (front_holds P xs ys (All-tail P x (xs ++ ys) h))

back_holds : (P : Node → Type 0) (xs ys : List Node) → All P (xs ++ ys) → All P ys
back_holds P [] ys h = h
back_holds P (x ∷ xs) ys h = back_holds P xs ys (All-tail P x (xs ++ ys) h)

no_hole : (n : Node) → IsOfPart n → IsNoHole n
no_hole (Inner c) h = tt
no_hole Cycle h = tt
no_hole (Bound c) h = tt
no_hole (Open c) h = tt
no_hole Hole h = h

whole_shape : (shape : Shape) → All IsOfPart (preorder shape) → IsWhole shape
whole_shape (leaf n) h = no_hole n (All-head IsOfPart n [] h)
whole_shape (branch c a b) h =
    let below = All-tail IsOfPart (Inner c) (preorder a ++ preorder b) h in
    (whole_shape a (front_holds IsOfPart (preorder a) (preorder b) below), whole_shape b (back_holds IsOfPart (preorder a) (preorder b) below))

-- ---- whole parts

module _ (task : Task) (part : Part) where
  abbrev True : List Decision → Node → Type 0
  True = IsTruePartNode task part.share

  module _ (nodes : List Node) (same : nodes ≡ map as_node part.tree) where
    pub whole_part : IsTree nodes → IsShare task.net part.share → HoldsOfAll True ([] ∷ []) nodes → IsLeastCarried nodes part.bound → IsTruePart task part
    whole_part tree share all least =
        let each : (path : List Decision) (n : Node) → StandsAt tree.shape path n → True path n =
        node_true nodes tree.shape tree.in_preorder tree.proper True all in
        let bound : IsLeastOfLeaves tree.shape part.bound = least_bound nodes tree.shape tree.in_preorder tree.proper part.bound 0 least.reached least.below in
        record {
          share = share;
          shape = tree.shape;
          in_preorder = tree.in_preorder ∙ same;
          proper = tree.proper;
          branches = λ path c s. each path (Inner c) s;
          cycles = λ path s. each path Cycle s;
          leaves = λ path c s. each path (Bound c) s;
          bound = record {
            path = bound.path;
            reached = elim bound.reached [ inl s ↦ s | inr s ↦ absurd (each bound.path (Open part.bound) s) ];
            below = bound.below_bounds;
          };
        }

    -- what holds of a true part
    module _ (p : IsTruePart task part) where
      there : preorder p.shape ≡ nodes
      there = p.in_preorder ∙ sym same

      none_open : (path : List Decision) (n : Node) → StandsAt p.shape path n → IsOfPart n
      none_open path n s =
          All-contains IsOfPart nodes n (subst (All IsOfPart) (sym same) (all_of_part part.tree)) (placed nodes p.shape there p.proper path n s)

      pub its_tree : IsTree nodes
      its_tree = record {
        shape = p.shape;
        in_preorder = there;
        proper = p.proper;
        whole = whole_shape p.shape (subst (All IsOfPart) (sym p.in_preorder) (all_of_part part.tree));
      }

      its_leaves : IsLeastOfLeaves p.shape part.bound
      its_leaves = record {
        path = p.bound.path;
        reached = inl p.bound.reached;
        below_bounds = p.bound.below;
        below_opens = λ path c s. absurd (none_open path (Open c) s);
      }

      pub its_least : IsLeastCarried nodes part.bound
      its_least = record {
        reached = bound_reached nodes p.shape there p.proper part.bound 0 its_leaves;
        below = none_below nodes p.shape there p.proper part.bound 0 its_leaves;
      }

      each_true : (path : List Decision) (n : Node) → StandsAt p.shape path n → True path n
      each_true path (Inner c) s = p.branches path c s
      each_true path Cycle s = p.cycles path s
      each_true path (Bound c) s = p.leaves path c s
      each_true path (Open c) s = absurd (none_open path (Open c) s)
      each_true path Hole s = absurd (none_open path Hole s)

      pub its_nodes : HoldsOfAll True ([] ∷ []) nodes
      its_nodes = nodes_true nodes p.shape there p.proper True each_true

    -- where the rest of a part is true, it is true exactly where its nodes are
    pub part_told : IsTree nodes → IsShare task.net part.share → IsLeastCarried nodes part.bound → (b : Bool) → Tells (HoldsOfAll True ([] ∷ []) nodes) b → Tells (IsTruePart task part) b
    part_told tree share least true all = whole_part tree share all least
    part_told tree share least false none = λ p. none (its_nodes p)
