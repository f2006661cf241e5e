-- Trees of choices: their nodes in preorder, what stands at a path, their leaves, and the least tree with given leaves.
use Rattle.std.specs.Prelude.{ℕ, ◌≡◌, ◌+◌, ◌<◌, ◌≤◌, ◌⊎◌, List, [], ◌∷◌, ◌++◌, length, drop, slice_get, Option, Some, None, All, Contains}
use Rattle.dm_rows.specs.declared.messages.Choice.{Choice}
use Rattle.dm_rows.specs.declared.messages.Decision.{Decision}
use Rattle.dm_rows.specs.Sides.{first_decision, second_decision, IsOrdered}
use Rattle.dm_tree.specs.declared.forms.Node.{Node}
use Rattle.dm_tree.specs.declared.forms.Node.TheVariants.{Inner, Cycle, Bound, Open, Hole}
use Rattle.dm_tree.specs.declared.forms.Leaf.{Leaf}
use Rattle.dm_tree.specs.declared.forms.Child.{Child}

-- a tree: a leaf, or a choice with the tree below its first decision and the tree below its second
pub data Shape : Type 0 where
  leaf : Node → Shape
  branch : Choice → Shape → Shape → Shape

-- the nodes in preorder: a choice, the nodes below its first decision, the nodes below its second
abbrev pub preorder : Shape → List Node
preorder (leaf n) = n ∷ []
preorder (branch c a b) = Inner c ∷ preorder a ++ preorder b

-- the choice of a node, or None where it is a leaf
abbrev pub choice_in : Node → Option Choice
choice_in (Inner c) = Some c
choice_in Cycle = None
choice_in (Bound c) = None
choice_in (Open c) = None
choice_in Hole = None

abbrev pub IsLeaf : Node → Type 0
IsLeaf (Inner c) = ⊥
IsLeaf Cycle = Unit {0}
IsLeaf (Bound c) = Unit {0}
IsLeaf (Open c) = Unit {0}
IsLeaf Hole = Unit {0}

abbrev pub IsNoHole : Node → Type 0
IsNoHole (Inner c) = Unit {0}
IsNoHole Cycle = Unit {0}
IsNoHole (Bound c) = Unit {0}
IsNoHole (Open c) = Unit {0}
IsNoHole Hole = ⊥

-- every pair is written in order, and a choice has two trees below it
abbrev pub IsProper : Shape → Type 0
IsProper (leaf n) = IsLeaf n
IsProper (branch c a b) = IsOrdered c × IsProper a × IsProper b

-- no leaf is a hole
abbrev pub IsWhole : Shape → Type 0
IsWhole (leaf n) = IsNoHole n
IsWhole (branch c a b) = IsWhole a × IsWhole b

-- the nodes are one tree in preorder, in which holes may stand
pub record IsPartialTree (nodes : List Node) : Type 0 where
  pub shape : Shape
  pub in_preorder : preorder shape ≡ nodes
  pub proper : IsProper shape

-- the nodes are one whole tree in preorder, without a hole
pub record IsTree (nodes : List Node) : Type 0 where
  pub shape : Shape
  pub in_preorder : preorder shape ≡ nodes
  pub proper : IsProper shape
  pub whole : IsWhole shape

-- the nodes from one place up to another are one whole tree in preorder
pub record IsTreeBetween (nodes : List Node) (from to : ℕ) : Type 0 where
  pub shape : Shape
  pub in_preorder : drop from nodes ≡ preorder shape ++ drop to nodes
  pub within : to ≤ length nodes
  pub proper : IsProper shape
  pub whole : IsWhole shape

-- At the place stands a choice, and its second child at the other: the nodes between the two are the first child's whole
-- tree, and the second's goes from there up to some end.
pub record IsSecondChild (nodes : List Node) (place second : ℕ) : Type 0 where
  pub choice : Choice
  pub stands : slice_get nodes place ≡ Some (Inner choice)
  pub first_tree : IsTreeBetween nodes (place + 1) second
  pub end : ℕ
  pub second_tree : IsTreeBetween nodes second end

-- a child of the choice at the place, with the decision that leads to it
pub record IsChildOf (nodes : List Node) (place : ℕ) (child : Child) : Type 0 where
  pub choice : Choice
  pub stands : slice_get nodes place ≡ Some (Inner choice)
  pub side : ((child.decision ≡ first_decision choice) × (child.place ≡ place + 1))
      ⊎ ((child.decision ≡ second_decision choice) × IsSecondChild nodes place child.place)

-- the decisions lead from the node at the place to the one at the target, each to a child of the choice that is reached
abbrev pub Leads : List Node → ℕ → List Decision → ℕ → Type 0
Leads nodes place [] target = place ≡ target
Leads nodes place (d ∷ path) target =
    (child : ℕ) × IsChildOf nodes place (record { decision = d; place = child }) × Leads nodes child path target

-- the place lies in the tree that begins at the root
pub record LiesIn (nodes : List Node) (root place : ℕ) : Type 0 where
  pub end : ℕ
  pub tree : IsTreeBetween nodes root end
  pub from_root : root ≤ place
  pub before_end : place < end

-- the child of the choice at a place in whose tree the target lies
pub record IsChildTowards (nodes : List Node) (place target : ℕ) (child : Child) : Type 0 where
  pub is_child : IsChildOf nodes place child
  pub below : LiesIn nodes child.place target

-- the target lies in no tree of a child
abbrev pub LiesNotBelow : List Node → ℕ → ℕ → Type 0
LiesNotBelow nodes place target = LiesIn nodes place target → target ≡ place

-- no choice stands at the place
abbrev pub HasNoChoiceAt : List Node → ℕ → Type 0
HasNoChoiceAt nodes place = (c : Choice) → slice_get nodes place ≡ Some (Inner c) → ⊥

-- the decisions from the root lead to the node
abbrev pub StandsAt : Shape → List Decision → Node → Type 0
StandsAt (leaf n) [] m = n ≡ m
StandsAt (leaf n) (d ∷ path) m = ⊥
StandsAt (branch c a b) [] m = Inner c ≡ m
StandsAt (branch c a b) (d ∷ path) m =
    ((d ≡ first_decision c) × StandsAt a path m) ⊎ ((d ≡ second_decision c) × StandsAt b path m)

-- the leaves in preorder, each with the decisions that lead to it, where these lead to the tree
abbrev pub leaves_below : List Decision → Shape → List Leaf
leaves_below path (leaf n) = (record { path = path; node = n }) ∷ []
leaves_below path (branch c a b) =
    leaves_below (path ++ first_decision c ∷ []) a ++ leaves_below (path ++ second_decision c ∷ []) b

-- the leaves in preorder, each with the decisions from the root to it
abbrev pub leaves_of : Shape → List Leaf
leaves_of shape = leaves_below [] shape

-- these are the leaves of the tree that the nodes are in preorder
pub record AreLeavesOf (nodes : List Node) (leaves : List Leaf) : Type 0 where
  pub shape : Shape
  pub in_preorder : preorder shape ≡ nodes
  pub proper : IsProper shape
  pub listed : leaves ≡ leaves_of shape

-- the tree has all of these leaves, which are given in any order, and none twice
pub record HasLeaves (shape : Shape) (leaves : List Leaf) : Type 0 where
  pub stand : All (λ l. StandsAt shape l.path l.node) leaves
  pub are_leaves : All (λ l. IsLeaf l.node) leaves
  pub once : (m n : ℕ) (a b : Leaf) → slice_get leaves m ≡ Some a → slice_get leaves n ≡ Some b → a.path ≡ b.path → m ≡ n

-- It is the least tree that has them: a leaf that is not given is a hole, and every other tree that has them has all of
-- its choices, at the same paths.
pub record IsLeastTree (shape : Shape) (leaves : List Leaf) : Type 0 where
  pub has : HasLeaves shape leaves
  pub holes : (path : List Decision) (n : Node) → StandsAt shape path n → IsLeaf n →
      (n ≡ Hole) ⊎ Contains leaves (record { path = path; node = n })
  pub least : (other : Shape) → IsProper other → HasLeaves other leaves →
      (path : List Decision) (c : Choice) → StandsAt shape path (Inner c) → StandsAt other path (Inner c)

-- the nodes are the least tree with these leaves, in preorder
pub record Assembles (leaves : List Leaf) (nodes : List Node) : Type 0 where
  pub shape : Shape
  pub in_preorder : preorder shape ≡ nodes
  pub proper : IsProper shape
  pub least : IsLeastTree shape leaves

-- no tree has these leaves
abbrev pub HaveNoTree : List Leaf → Type 0
HaveNoTree leaves = (shape : Shape) → IsProper shape → HasLeaves shape leaves → ⊥

-- the decisions that lead from the root to a place are those of the node that stands there
abbrev pub LeadsToWhatStands : Type 0
LeadsToWhatStands =
    (shape : Shape) → IsProper shape → (path : List Decision) (place : ℕ) (n : Node) → Leads (preorder shape) 0 path place →
    slice_get (preorder shape) place ≡ Some n → StandsAt shape path n
