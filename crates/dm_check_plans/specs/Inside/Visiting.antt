-- The nodes of a tree, visited in preorder.
use Rattle.std.specs.Prelude.{ℕ, ◌+◌, ◌<◌, ◌≤◌, Bool, true, false, List, length, Option, Some, None}
use Rattle.dm_network.specs.Net.{Net}
use Rattle.dm_rows.specs.declared.messages.Decision.{Decision}
use Rattle.dm_rows.specs.Cost.{Costs}
use Rattle.dm_rows.specs.Rows.{RowsValue}
use Rattle.dm_tree.specs.declared.forms.Node.{Node}
use Rattle.dm_tree.specs.declared.forms.Node.TheVariants.{Inner, Cycle, Bound, Open, Hole}
use Rattle.dm_tree.specs.Plans.{Task, IsTrueInner, IsTrueCycle, IsTrueBound, IsTrueOpen}
use Rattle.dm_tree.specs.declared.forms.Mark.{Mark}
use Rattle.dm_tree.specs.declared.forms.Mark.TheVariants.{Optimal, Open as OpenMark}
use Rattle.dm_check_plans.specs.Inside.Leaves.{is_open, SomeNode, NoneNode}
use Rattle.dm_check_plans.specs.Visiting.{HoldsOfAll, IsLeastCarried}

-- the node at the path is true; a hole is not
abbrev pub IsTrueNode : Task → ℕ → List Decision → Node → Type 0
IsTrueNode task plan_cost path (Inner choice) = IsTrueInner task path choice
IsTrueNode task plan_cost path Cycle = IsTrueCycle task path
IsTrueNode task plan_cost path (Bound c) = IsTrueBound task plan_cost path c
IsTrueNode task plan_cost path (Open c) = IsTrueOpen task plan_cost path c
IsTrueNode task plan_cost path Hole = ⊥

-- all nodes at these places due are true
abbrev pub AreTrueNodes : Task → ℕ → List (List Decision) → List Node → Type 0
AreTrueNodes task plan_cost = HoldsOfAll (IsTrueNode task plan_cost)

-- what the rows themselves cost, or None where they have a cycle and so no cost
abbrev pub IsOwnCost : Net → RowsValue → ℕ → Option ℕ → Type 0
IsOwnCost net rows penalty (Some c) = Costs net rows penalty c
IsOwnCost net rows penalty None = (c : ℕ) → Costs net rows penalty c → ⊥

abbrev pub is_cycle : Node → Bool
is_cycle Cycle = true
is_cycle _ = false

-- ---- what a plan says of its tree

-- it is marked Optimal where no leaf is open, and Open where one is and two more nodes would be too many
abbrev pub IsMarked : List Node → Mark → ℕ → Type 0
IsMarked nodes Optimal budget = NoneNode is_open nodes (length nodes)
IsMarked nodes OpenMark budget = SomeNode is_open nodes × (budget < length nodes + 2)

-- the bound is the least cost of a leaf, the mark tells whether some leaf is open, and the budget is kept to and used
pub record IsToldOf (nodes : List Node) (bound : ℕ) (mark : Mark) (budget : ℕ) : Type 0 where
  pub least : IsLeastCarried nodes bound
  pub marked : IsMarked nodes mark budget
  pub size : length nodes ≤ budget
