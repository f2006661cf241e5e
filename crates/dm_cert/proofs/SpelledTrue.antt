-- A true plan by parts whose text has room for its ids has a spelling.
use Rattle.std.proofs.Common.{◌≡◌, ◌<◌, ◌≤◌, List, [], ◌∷◌, ◌++◌, length, map, ap, subst, arith, All}
use Rattle.std.proofs.lemmas.List.{length-map}
use Rattle.std.proofs.lemmas.List.Elements.{All-nil, All-cons, All-head, All-tail, All-append, All-weaker}
use Rattle.dm_rows.specs.Sides.{IsOrdered}
use Rattle.dm_tree.specs.declared.forms.Node.{Node}
use Rattle.dm_tree.specs.declared.forms.Node.TheVariants.{Inner, Cycle, Bound, Open, Hole}
use Rattle.dm_tree.specs.Trees.{Shape, leaf, branch, preorder, IsLeaf, IsProper}
use Rattle.dm_tree.specs.Plans.{Task}
use Rattle.dm_parts.specs.declared.parts.PartNode.{PartNode}
use Rattle.dm_parts.specs.declared.parts.PartNode.TheVariants.{Inner as InnerNode, Cycle as CycleNode, Leaf}
use Rattle.dm_parts.specs.declared.parts.Part.{Part}
use Rattle.dm_parts.specs.declared.parts.PlanByParts.{PlanByParts}
use Rattle.dm_parts.specs.Parts.{as_node, IsTruePart, IsTruePlanByParts}
use Rattle.dm_parts.specs.Sizes.{ids_of, most_ids}
use Rattle.dm_cert.specs.SolvedTexts.{IsSpelledPartNode, IsSpelledPart, IsSpelledSolved}

-- of a choice the smaller id stands first
abbrev IsOrderedNode : Node → Type 0
IsOrderedNode (Inner c) = IsOrdered c
IsOrderedNode Cycle = Unit {0}
IsOrderedNode (Bound c) = Unit {0}
IsOrderedNode (Open c) = Unit {0}
IsOrderedNode Hole = Unit {0}

leaf_in_order : (n : Node) → IsLeaf n → IsOrderedNode n
leaf_in_order (Inner c) h = absurd h
leaf_in_order Cycle h = tt
leaf_in_order (Bound c) h = tt
leaf_in_order (Open c) h = tt
leaf_in_order Hole h = tt

tree_in_order : (shape : Shape) → IsProper shape → All IsOrderedNode (preorder shape)
tree_in_order (leaf n) proper = All-cons IsOrderedNode n [] (leaf_in_order n proper) (All-nil IsOrderedNode)
tree_in_order (branch c a b) proper =
    All-cons IsOrderedNode (Inner c) (preorder a ++ preorder b) proper.0
    (All-append IsOrderedNode (preorder a) (preorder b) (tree_in_order a proper.1) (tree_in_order b proper.2))

some_node : (shape : Shape) → 0 < length (preorder shape)
some_node (leaf n) = omega arith
some_node (branch c a b) = omega arith

spelled_node : (n : PartNode) → IsOrderedNode (as_node n) → IsSpelledPartNode n
spelled_node (InnerNode c) h = h
spelled_node CycleNode h = tt
spelled_node (Leaf c) h = tt

spelled_nodes : (nodes : List PartNode) → All IsOrderedNode (map as_node nodes) → All IsSpelledPartNode nodes
spelled_nodes [] h = All-nil IsSpelledPartNode
spelled_nodes (n ∷ nodes) h =
    All-cons IsSpelledPartNode n nodes (spelled_node n (All-head IsOrderedNode (as_node n) (map as_node nodes) h))
    (spelled_nodes nodes (All-tail IsOrderedNode (as_node n) (map as_node nodes) h))

true_part_is_spelled : (task : Task) (part : Part) → IsTruePart task part → IsSpelledPart part
true_part_is_spelled task part t =
    let some : 0 < length (preorder t.shape) = some_node t.shape in
    let size : length (preorder t.shape) ≡ length (map as_node part.tree) = ap length t.in_preorder in
    let same : length (map as_node part.tree) ≡ length part.tree = length-map part.tree as_node in
    record {
      arrivals = t.share.arrivals_ascend;
      changes = t.share.changes_ascend;
      some_node = omega arith;
      nodes = spelled_nodes part.tree (subst (All IsOrderedNode) t.in_preorder (tree_in_order t.shape t.proper));
    }

pub true_is_spelled : (task : Task) (plan : PlanByParts) → IsTruePlanByParts task plan → ids_of plan.parts ≤ most_ids → IsSpelledSolved plan
true_is_spelled task plan t few = record {
  parts = All-weaker (IsTruePart task) IsSpelledPart (true_part_is_spelled task) plan.parts t.parts;
  few_ids = few;
}
