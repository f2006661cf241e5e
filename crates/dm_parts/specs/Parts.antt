-- What a true part of a cost is, and what a true plan by parts is.
use Rattle.std.specs.Prelude.{ℕ, ◌≡◌, ◌+◌, ◌≤◌, ◌↔◌, not, IsTrue, List, [], ◌++◌, length, map, sum_by, All, Contains}
use Rattle.dm_rows.specs.declared.messages.Decision.{Decision}
use Rattle.dm_rows.specs.declared.messages.Choice.{Choice}
use Rattle.dm_rows.specs.Decide.{choice_of}
use Rattle.dm_rows.specs.Relax.{is_decided}
use Rattle.dm_tree.specs.declared.forms.Node.{Node}
use Rattle.dm_tree.specs.declared.forms.Node.TheVariants.{Inner, Cycle, Bound}
use Rattle.dm_tree.specs.declared.forms.Mark.TheVariants.{Optimal}
use Rattle.dm_tree.specs.Trees.{Shape, preorder, IsProper, StandsAt}
use Rattle.dm_tree.specs.Relaxed.{HasNoRelaxedCycle}
use Rattle.dm_tree.specs.Plans.{Task, AreSomeOf, DiffersFrom, CostsWith, CostsRelaxed, IsTrueCycle}
use Rattle.dm_parts.specs.declared.shares.Share.{Share}
use Rattle.dm_parts.specs.declared.parts.PartNode.{PartNode}
use Rattle.dm_parts.specs.declared.parts.PartNode.TheVariants.{Inner as InnerNode, Cycle as CycleNode, Leaf}
use Rattle.dm_parts.specs.declared.parts.Part.{Part}
use Rattle.dm_parts.specs.declared.parts.PlanByParts.{PlanByParts}
use Rattle.dm_parts.specs.Shares.{within, beside, IsShare, AreApart}

-- the task in which the terms of a share alone cost something, and the one in which those that no share has do
abbrev pub task_within : Task → Share → Task
task_within task share =
    record {
      net = within task.net share;
      rows = task.rows;
      penalty = task.penalty;
      base = task.base;
      allowed = task.allowed;
      budget = task.budget;
    }

abbrev pub task_beside : Task → List Share → Task
task_beside task shares =
    record {
      net = beside task.net shares;
      rows = task.rows;
      penalty = task.penalty;
      base = task.base;
      allowed = task.allowed;
      budget = task.budget;
    }

-- a node of a part as a node of a tree, in which a leaf carries a bound
abbrev pub as_node : PartNode → Node
as_node (InnerNode c) = Inner c
as_node CycleNode = Cycle
as_node (Leaf c) = Bound c

-- A choice of a part's tree: the relaxed problem of its path has no cycle, and the choice is allowed and undecided there.
pub record IsTrueBranch (task : Task) (path : List Decision) (choice : Choice) : Type 0 where
  pub no_cycle : HasNoRelaxedCycle task.net task.rows (task.base ++ path)
  pub allowed : Contains task.allowed choice
  pub undecided : IsTrue (not (is_decided (task.base ++ path) choice))

-- some leaf of the tree carries this cost, and no other a smaller one
pub record IsLeastLeaf (shape : Shape) (bound : ℕ) : Type 0 where
  pub path : List Decision
  pub reached : StandsAt shape path (Bound bound)
  pub below : (p : List Decision) (c : ℕ) → StandsAt shape p (Bound c) → bound ≤ c

-- A true part: its share is one of the network; its nodes are one whole tree; each choice is allowed and undecided on its
-- path, whose relaxed problem has no cycle; that of a Cycle leaf has one; each other leaf carries the relaxed cost of its path
-- within the share; and the bound is the least of these costs.
pub record IsTruePart (task : Task) (part : Part) : Type 0 where
  pub share : IsShare task.net part.share
  pub shape : Shape
  pub in_preorder : preorder shape ≡ map as_node part.tree
  pub proper : IsProper shape
  pub branches : (path : List Decision) (choice : Choice) → StandsAt shape path (Inner choice) → IsTrueBranch task path choice
  pub cycles : (path : List Decision) → StandsAt shape path Cycle → IsTrueCycle task path
  pub leaves : (path : List Decision) (c : ℕ) → StandsAt shape path (Bound c) →
      CostsRelaxed (task_within task part.share) path c
  pub bound : IsLeastLeaf shape part.bound

-- the shares of a plan's parts
abbrev pub shares_of : List Part → List Share
shares_of parts = map (λ part. part.share) parts

-- A true plan by parts: its choices are allowed, in order and none twice, and differ from the rows; with them the rows have
-- no cycle and cost what the plan says; each part is true, and no term stands in two of them; the rest is the relaxed cost,
-- with nothing decided, of the terms that stand in none; the bound is the sum of the parts' bounds and the rest; it is marked
-- Optimal exactly where the bound is the cost; and the parts together keep to the budget.
pub record IsTruePlanByParts (task : Task) (plan : PlanByParts) : Type 0 where
  pub choices : AreSomeOf task.allowed (map choice_of plan.choices)
  pub differ : All (DiffersFrom task) plan.choices
  pub cost : CostsWith task plan.choices plan.cost
  pub parts : All (IsTruePart task) plan.parts
  pub apart : AreApart (shares_of plan.parts)
  pub rest : CostsRelaxed (task_beside task (shares_of plan.parts)) [] plan.rest
  pub bound : plan.bound ≡ sum_by (λ part. part.bound) plan.parts + plan.rest
  pub mark : (plan.mark ≡ Optimal) ↔ (plan.bound ≡ plan.cost)
  pub size : sum_by (λ part. length part.tree) plan.parts ≤ task.budget
