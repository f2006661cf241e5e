-- A part's tree that is made node by node in preorder.
use Rattle.std.specs.Prelude.{ℕ, ◌≡◌, ◌<◌, ◌≤◌, ◌^◌, min, true, List, ◌∷◌, ◌++◌, map, Contains, Option, Some, None}
use Rattle.dm_rows.specs.declared.messages.Decision.{Decision}
use Rattle.dm_rows.specs.Decide.{IsChoiceList}
use Rattle.dm_tree.specs.declared.forms.Leaf.{Leaf as Station}
use Rattle.dm_tree.specs.declared.forms.Node.{Node}
use Rattle.dm_tree.specs.declared.forms.Node.TheVariants.{Inner, Cycle, Bound, Open, Hole}
use Rattle.dm_tree.specs.Plans.{Task, CostsRelaxed, IsTrueCycle}
use Rattle.dm_tree.specs.Pending.{pending}
use Rattle.dm_tree.specs.Inside.Filling.{fills}
use Rattle.dm_tree.specs.Inside.Assembling.{seen, GoesOn}
use Rattle.dm_parts.specs.declared.parts.PartNode.{PartNode}
use Rattle.dm_parts.specs.declared.parts.PartNode.TheVariants.{Inner as InnerNode, Cycle as CycleNode, Leaf}
use Rattle.dm_parts.specs.declared.shares.Share.{Share}
use Rattle.dm_parts.specs.Parts.{task_within, as_node, IsTrueBranch}

-- what a true part asks of a node at a path
abbrev pub IsTrueNode : Task → Share → List Decision → Node → Type 0
IsTrueNode task share path (Inner c) = IsTrueBranch task path c
IsTrueNode task share path Cycle = IsTrueCycle task path
IsTrueNode task share path (Bound c) = CostsRelaxed (task_within task share) path c
IsTrueNode task share path (Open c) = ⊥
IsTrueNode task share path Hole = ⊥

-- each of the first nodes of a tree is true at its path
abbrev pub AreTrue : Task → Share → List PartNode → Type 0
AreTrue task share nodes =
    (l : Station) → Contains (seen (map as_node nodes)) l → IsTrueNode task share l.path l.node

-- the first nodes of a tree are true, the path is that of the next one, and each path that is due decides free choices
pub record IsGrown (task : Task) (share : Share) (nodes : List PartNode) (path : List Decision) : Type 0 where
  pub settled : AreTrue task share nodes
  pub goes_on : GoesOn (map as_node nodes) path
  pub lists : (q : List Decision) → Contains (path ∷ pending path) q → IsChoiceList task.net task.rows (task.base ++ q)

-- the nodes are one tree, and each is true
pub record IsTrueTree (task : Task) (share : Share) (nodes : List PartNode) : Type 0 where
  pub settled : AreTrue task share nodes
  pub whole : fills true 0 (map as_node nodes) ≡ true

-- no leaf among the nodes costs less than what is known, and some leaf costs that, if anything is known
abbrev pub cost_in : Node → Option ℕ
cost_in (Inner c) = None
cost_in Cycle = None
cost_in (Bound c) = Some c
cost_in (Open c) = None
cost_in Hole = None

abbrev pub IsLeastOf : List PartNode → Option ℕ → Type 0
IsLeastOf nodes None = (n : Node) (c : ℕ) → Contains (map as_node nodes) n → cost_in n ≡ Some c → ⊥
IsLeastOf nodes (Some least) =
    Contains (map as_node nodes) (Bound least)
    × ((n : Node) (c : ℕ) → Contains (map as_node nodes) n → cost_in n ≡ Some c → least ≤ c)

-- the least cost with one node more
abbrev pub least_with : Option ℕ → PartNode → Option ℕ
least_with (Some least) (Leaf c) = Some (min least c)
least_with None (Leaf c) = Some c
least_with least (InnerNode c) = least
least_with least CycleNode = least

-- what is known is below the limit of costs
abbrev pub IsLow : Option ℕ → Type 0
IsLow (Some least) = least < 2 ^ 100
IsLow None = Unit {0}

abbrev pub IsLowNode : PartNode → Type 0
IsLowNode (InnerNode c) = Unit {0}
IsLowNode CycleNode = Unit {0}
IsLowNode (Leaf c) = c < 2 ^ 100
