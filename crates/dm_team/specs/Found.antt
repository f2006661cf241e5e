-- What the workers of a search have found, and what the plan has of it.
use Rattle.std.specs.Prelude.{ℕ, ◌≡◌, ◌<◌, ◌≤◌, ◌⊎◌, List, [], length, map, min, All}
use Rattle.dm_rows.specs.declared.messages.Decision.{Decision}
use Rattle.dm_rows.specs.Cost.{Costs}
use Rattle.dm_rows.specs.Decide.{choice_of}
use Rattle.dm_rows.specs.declared.messages.Choice.{Choice}
use Rattle.dm_tree.specs.declared.forms.Leaf.{Leaf}
use Rattle.dm_tree.specs.declared.forms.Node.{Node}
use Rattle.dm_tree.specs.declared.forms.Node.TheVariants.{Inner, Cycle, Bound, Open, Hole}
use Rattle.dm_tree.specs.Plans.{Task, AreSomeOf, DiffersFrom, CostsWith, CostsRelaxed, IsTrueCycle, IsViolatedThere}
use Rattle.dm_tree.specs.Trees.{Assembles}
use Rattle.dm_bound.specs.Words.{HandValue, nothing_looked}
use Rattle.dm_traverse.specs.Finish.{GoesOnFrom}
use Rattle.dm_team.specs.Ways.{GoesDown, StandApart}
use Rattle.dm_team.specs.Nodes.{GuidedTask, IsChosen}

-- what the rows cost by themselves
abbrev pub IsOwnCost : Task → ℕ → Type 0
IsOwnCost task own = Costs task.net task.rows task.penalty own

-- a bound that was shown: no less than the choices that are kept, or than a value of the word at which it prunes
abbrev pub IsShown : ℕ → ℕ → ℕ → Type 0
IsShown best looked c = (best ≤ c) ⊎ ((looked ≤ c) × (looked < nothing_looked))

-- what is known of a leaf that is handed in
abbrev pub IsEnd : Task → ℕ → ℕ → List Decision → Node → Type 0
IsEnd task best looked path (Inner choice) = ⊥
IsEnd task best looked path Cycle = IsTrueCycle task path
IsEnd task best looked path (Bound c) = CostsRelaxed task path c × IsShown best looked c
IsEnd task best looked path (Open c) = (choice : Choice) × IsViolatedThere task path choice c
IsEnd task best looked path Hole = ⊥

pub record IsHandedIn (task : GuidedTask) (best looked : ℕ) (l : Leaf) : Type 0 where
  pub way : GoesDown (IsChosen task) [] l.path
  pub end : IsEnd task.task best looked l.path l.node

-- choices that are kept: they cost no more than the rows by themselves
pub record AreKept (task : Task) (own : ℕ) (choices : List Decision) (cost : ℕ) : Type 0 where
  pub in_order : AreSomeOf task.allowed (map choice_of choices)
  pub differ : All (DiffersFrom task) choices
  pub costs : CostsWith task choices cost
  pub no_dearer : cost ≤ own

-- each cost by which the word was lowered is no less than what the kept choices cost, or prunes nothing
abbrev pub AreListed : ℕ → List ℕ → Type 0
AreListed best lowered = All (λ c. (best ≤ c) ⊎ (c ≡ nothing_looked)) lowered

-- Leaves that stand apart, of which each is known, and choices that are kept, by the hand of all workers: the word started at
-- what the rows cost by themselves, and was lowered only by what such choices cost, or more.
pub record IsFound (task : GuidedTask) (own : ℕ) (hand : HandValue) (leaves : List Leaf) (choices : List Decision) (cost : ℕ) : Type 0 where
  pub start : hand.start ≡ min own nothing_looked
  pub listed : AreListed cost hand.lowered
  pub apart : StandApart leaves
  pub ends : All (IsHandedIn task cost hand.looked) leaves
  pub kept : AreKept task.task own choices cost

-- a tree is the least one with the leaves, where that one keeps to the budget; and one goes on from it
pub record BeginsFrom (budget : ℕ) (leaves : List Leaf) (tree : List Node) : Type 0 where
  pub nodes : List Node
  pub assembled : Assembles leaves nodes
  pub begins : length nodes ≤ budget → nodes ≡ tree

pub record GrowsFrom (budget : ℕ) (leaves : List Leaf) (tree : List Node) : Type 0 where
  pub nodes : List Node
  pub assembled : Assembles leaves nodes
  pub grows : length nodes ≤ budget → GoesOnFrom nodes tree
