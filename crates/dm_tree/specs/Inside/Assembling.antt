-- A tree that is put together from leaves, node by node in preorder.
use Rattle.std.specs.Prelude.{ℕ, zero, suc, ◌≡◌, ◌+◌, ◌<◌, ◌⊎◌, true, List, [], ◌∷◌, ◌++◌, length, slice_get, slice_index, Option, Some, None, Contains}
use Rattle.dm_rows.specs.declared.messages.Choice.{Choice}
use Rattle.dm_rows.specs.declared.messages.Decision.{Decision}
use Rattle.dm_rows.specs.Decide.{choice_of}
use Rattle.dm_tree.specs.declared.forms.Node.{Node}
use Rattle.dm_tree.specs.declared.forms.Node.TheVariants.{Inner, Cycle, Bound, Open, Hole}
use Rattle.dm_tree.specs.declared.forms.Leaf.{Leaf}
use Rattle.dm_tree.specs.Trees.{choice_in, IsLeaf, IsProper, StandsAt, Shape}
use Rattle.dm_rows.specs.Sides.{IsOrdered, first_decision, second_decision}
use Rattle.dm_tree.specs.Inside.Filling.{fills, visits}
use Rattle.dm_tree.specs.Pending.{pending, IsFront}

-- the leaf at the place lies at the path or below
pub record LiesAt (leaves : List Leaf) (path : List Decision) (place : ℕ) : Type 0 where
  pub one : Leaf
  pub at : slice_get leaves place ≡ Some one
  pub front : IsFront path one.path

-- the place is one of the group
pub record IsAmong (group : List ℕ) (place : ℕ) : Type 0 where
  pub index : ℕ
  pub within : index < length group
  pub is : slice_index group index ≡ place

abbrev pub Ascends : List ℕ → Type 0
Ascends group = (m n : ℕ) → m < n → n < length group → slice_index group m < slice_index group n

-- the places, ascending, of all leaves that lie at the path or below
pub record IsGroup (leaves : List Leaf) (path : List Decision) (group : List ℕ) : Type 0 where
  pub ascends : Ascends group
  pub each : (m : ℕ) → m < length group → LiesAt leaves path (slice_index group m)
  pub all : (place : ℕ) → LiesAt leaves path place → IsAmong group place

-- of the first i of a group, those that lie at a path or below
pub record IsSide (leaves : List Leaf) (path : List Decision) (group side : List ℕ) (i : ℕ) : Type 0 where
  pub ascends : Ascends side
  pub each : (m : ℕ) → m < length side → LiesAt leaves path (slice_index side m)
  pub before : (m : ℕ) → m < length side → (j : ℕ) × ((j < i) × (slice_index group j ≡ slice_index side m))
  pub all : (j : ℕ) → j < i → LiesAt leaves path (slice_index group j) → IsAmong side (slice_index group j)

-- a group for each path that is due, in order
abbrev pub AreGroups : List Leaf → List (List Decision) → List (List ℕ) → Type 0
AreGroups leaves [] [] = Unit {0}
AreGroups leaves [] (g ∷ groups) = ⊥
AreGroups leaves (path ∷ due) [] = ⊥
AreGroups leaves (path ∷ due) (g ∷ groups) = IsGroup leaves path g × AreGroups leaves due groups

-- in front of the groups stand those of the two sides of a choice at the path
pub record IsParted (leaves : List Leaf) (path : List Decision) (c : Choice) (before after : List (List ℕ)) : Type 0 where
  pub first : List ℕ
  pub second : List ℕ
  pub is : after ≡ first ∷ second ∷ before
  pub of_first : IsGroup leaves (path ++ first_decision c ∷ []) first
  pub of_second : IsGroup leaves (path ++ second_decision c ∷ []) second

-- the place behind the last one looked at, when so many of a group were
abbrev pub reached : List ℕ → ℕ → ℕ
reached group zero = 0
reached group (suc i) = slice_index group i + 1

-- the places 0, 1 and so on
pub record IsUpTo (places : List ℕ) (i : ℕ) : Type 0 where
  pub size : length places ≡ i
  pub each : (m : ℕ) → m < i → slice_index places m ≡ m

-- the leaf lies below a choice at the path
pub record LiesBelow (path : List Decision) (c : Choice) (l : Leaf) : Type 0 where
  pub decision : Decision
  pub rest : List Decision
  pub is : l.path ≡ path ++ decision ∷ rest
  pub decides : choice_of decision ≡ c

-- the leaf, whose path begins with this one, asks for the node there
abbrev pub AsksFor : List Decision → Node → Leaf → Type 0
AsksFor path (Inner c) l = LiesBelow path c l
AsksFor path Cycle l = (l.path ≡ path) × (l.node ≡ Cycle)
AsksFor path (Bound c) l = (l.path ≡ path) × (l.node ≡ Bound c)
AsksFor path (Open c) l = (l.path ≡ path) × (l.node ≡ Open c)
AsksFor path Hole l = (l.path ≡ path) × (l.node ≡ Hole)

abbrev pub MayStand : Node → Type 0
MayStand (Inner c) = IsOrdered c
MayStand Cycle = Unit {0}
MayStand (Bound c) = Unit {0}
MayStand (Open c) = Unit {0}
MayStand Hole = Unit {0}

-- what the leaf asks for at the path, or None where no tree has the leaf
abbrev pub IsAskedOf : List Decision → Leaf → Option Node → Type 0
IsAskedOf path l (Some n) = AsksFor path n l × MayStand n
IsAskedOf path l None = (shape : Shape) → IsProper shape → IsLeaf l.node → StandsAt shape l.path l.node → ⊥

-- the two nodes are one choice
abbrev pub Agree : Node → Node → Type 0
Agree m n = (c : Choice) × ((choice_in m ≡ Some c) × (choice_in n ≡ Some c))

-- one of the first i leaves asks for the node at the path; all that lie there ask for the same, and no second one where it
-- is a leaf
pub record IsAsked (leaves : List Leaf) (path : List Decision) (i : ℕ) (n : Node) : Type 0 where
  pub place : ℕ
  pub before : place < i
  pub one : Leaf
  pub at : slice_get leaves place ≡ Some one
  pub asks : AsksFor path n one
  pub may_stand : MayStand n
  pub all : (k : ℕ) (l : Leaf) → k < i → slice_get leaves k ≡ Some l → IsFront path l.path → AsksFor path n l
  pub sole : IsLeaf n → (k : ℕ) (l : Leaf) → k < i → slice_get leaves k ≡ Some l → IsFront path l.path → k ≡ place

-- none of the first i leaves lies at the path or below
abbrev pub LiesNone : List Leaf → List Decision → ℕ → Type 0
LiesNone leaves path i =
    (k : ℕ) (l : Leaf) → k < i → slice_get leaves k ≡ Some l → IsFront path l.path → ⊥

abbrev pub SeenSoFar : List Leaf → List Decision → ℕ → Option Node → Type 0
SeenSoFar leaves path i None = LiesNone leaves path i
SeenSoFar leaves path i (Some n) = IsAsked leaves path i n

-- the node that stands at the path in the least tree with the leaves
abbrev pub IsDue : List Leaf → List Decision → Node → Type 0
IsDue leaves path n = IsAsked leaves path (length leaves) n ⊎ ((n ≡ Hole) × LiesNone leaves path (length leaves))

-- what stands at the paths of these nodes, the first ones of a tree in preorder
abbrev pub seen : List Node → List Leaf
seen nodes = visits ([] ∷ []) nodes

-- after these nodes the path is the next one, and the places behind it are due
pub record GoesOn (nodes : List Node) (path : List Decision) : Type 0 where
  pub filling : (ns : List Node) → fills true 0 (nodes ++ ns) ≡ fills true (length (pending path)) ns
  pub visiting : (ns : List Node) → visits ([] ∷ []) (nodes ++ ns) ≡ seen nodes ++ visits (path ∷ pending path) ns

-- some leaf lies below the choice; a leaf is given, or is a hole
abbrev pub IsNeeded : List Leaf → List Decision → Node → Type 0
IsNeeded leaves path (Inner c) = (k : ℕ) × ((l : Leaf) × ((slice_get leaves k ≡ Some l) × LiesBelow path c l))
IsNeeded leaves path Cycle = Contains leaves (record { path = path; node = Cycle })
IsNeeded leaves path (Bound c) = Contains leaves (record { path = path; node = Bound c })
IsNeeded leaves path (Open c) = Contains leaves (record { path = path; node = Open c })
IsNeeded leaves path Hole = Unit {0}

-- the leaf stands among the nodes, and no other one has its path
pub record HasPlace (leaves : List Leaf) (nodes : List Node) (k : ℕ) (l : Leaf) : Type 0 where
  pub stands : Contains (seen nodes) l
  pub is_leaf : IsLeaf l.node
  pub sole : (j : ℕ) (other : Leaf) → slice_get leaves j ≡ Some other → other.path ≡ l.path → j ≡ k

-- the leaf lies at one of these paths or below
pub record IsDueAt (due : List (List Decision)) (l : Leaf) : Type 0 where
  pub path : List Decision
  pub among : Contains due path
  pub front : IsFront path l.path

-- so far every node is needed, and every leaf has its place or lies where something is due
pub record IsDraft (leaves : List Leaf) (nodes : List Node) (path : List Decision) (groups : List (List ℕ)) : Type 0 where
  pub goes_on : GoesOn nodes path
  pub grouped : AreGroups leaves (path ∷ pending path) groups
  pub needed : (l : Leaf) → Contains (seen nodes) l → IsNeeded leaves l.path l.node
  pub placed : (k : ℕ) (l : Leaf) → slice_get leaves k ≡ Some l →
      HasPlace leaves nodes k l ⊎ IsDueAt (path ∷ pending path) l

-- every node is needed, every leaf has its place, and nothing is due
pub record IsFinished (leaves : List Leaf) (nodes : List Node) : Type 0 where
  pub whole : fills true 0 nodes ≡ true
  pub needed : (l : Leaf) → Contains (seen nodes) l → IsNeeded leaves l.path l.node
  pub placed : (k : ℕ) (l : Leaf) → slice_get leaves k ≡ Some l → HasPlace leaves nodes k l
