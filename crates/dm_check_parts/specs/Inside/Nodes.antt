-- The nodes of a part, each at its path.
use Rattle.std.specs.Prelude.{◌≡◌, Bool, true, false, List, map, Option, Some, None}
use Rattle.dm_rows.specs.declared.messages.Decision.{Decision}
use Rattle.dm_tree.specs.declared.forms.Node.{Node}
use Rattle.dm_tree.specs.declared.forms.Node.TheVariants.{Inner, Cycle, Bound, Open, Hole}
use Rattle.dm_tree.specs.Plans.{Task, CostsRelaxed, IsTrueCycle}
use Rattle.dm_parts.specs.declared.shares.Share.{Share}
use Rattle.dm_tree.specs.Trees.{IsTree}
use Rattle.dm_parts.specs.declared.parts.Part.{Part}
use Rattle.dm_parts.specs.Parts.{as_node, task_within, IsTrueBranch}

-- the node at the path is true within the share; no other node stands in a part
abbrev pub IsTruePartNode : Task → Share → List Decision → Node → Type 0
IsTruePartNode task share path (Inner choice) = IsTrueBranch task path choice
IsTruePartNode task share path Cycle = IsTrueCycle task path
IsTruePartNode task share path (Bound c) = CostsRelaxed (task_within task share) path c
IsTruePartNode task share path (Open c) = ⊥
IsTruePartNode task share path Hole = ⊥

-- the tree is that of the part, or the part's nodes are no whole tree
abbrev pub IsTreeOf : Part → Option (List Node) → Type 0
IsTreeOf part (Some nodes) = (nodes ≡ map as_node part.tree) × IsTree nodes
IsTreeOf part None = IsTree (map as_node part.tree) → ⊥

abbrev pub is_cycle : Node → Bool
is_cycle Cycle = true
is_cycle _ = false
