-- A tree that is searched node by node in preorder.
use Rattle.std.specs.Prelude.{ℕ, ◌≡◌, ◌+◌, ◌<◌, ◌≤◌, ◌⊎◌, true, List, [], ◌∷◌, ◌++◌, length, map, All, Contains, None}
use Rattle.dm_rows.specs.declared.messages.Choice.{Choice}
use Rattle.dm_rows.specs.declared.messages.Decision.{Decision}
use Rattle.dm_rows.specs.Cost.{Costs}
use Rattle.dm_rows.specs.Decide.{choice_of, IsChoiceList}
use Rattle.dm_tree.specs.declared.forms.Node.{Node}
use Rattle.dm_tree.specs.declared.forms.Node.TheVariants.{Open}
use Rattle.dm_tree.specs.declared.forms.Leaf.{Leaf}
use Rattle.dm_tree.specs.Trees.{choice_in}
use Rattle.dm_tree.specs.Plans.{Task, AreSomeOf, DiffersFrom, CostsWith, CostsRelaxed, IsTrueInner}
use Rattle.dm_tree.specs.Inside.Filling.{fills, visits}
use Rattle.dm_tree.specs.Pending.{pending}
use Rattle.dm_rows.specs.Sides.{is_ordered}
use Rattle.dm_tree.specs.Inside.Assembling.{seen, GoesOn}
use Rattle.dm_traverse.specs.declared.searching.Best.{Best}
use Rattle.dm_traverse.specs.declared.searching.Standing.{Standing}
use Rattle.dm_traverse.specs.declared.searching.Found.{Found}
use Rattle.dm_traverse.specs.declared.searching.Found.TheVariants.{Settled, Better, Split}
use Rattle.dm_traverse.specs.Finish.{IsKnown, Stays}

-- each node of the first tree that stays is in the second at the same path
abbrev pub Keeps : List Node → List Node → Type 0
Keeps before after = (l : Leaf) → Stays l.node → Contains (seen before) l → Contains (seen after) l

-- choices that a plan may have, which cost this and no more than the rows by themselves
pub record AreBest (task : Task) (best : List Decision) (cost : ℕ) : Type 0 where
  pub choices : AreSomeOf task.allowed (map choice_of best)
  pub differ : All (DiffersFrom task) best
  pub costs : CostsWith task best cost
  pub own_cost : ℕ
  pub of_rows : Costs task.net task.rows task.penalty own_cost
  pub no_dearer : cost ≤ own_cost

-- the nodes left fill the places that are due, the first of them at the path, and each is known there
pub record IsGoing (task : Task) (best : ℕ) (nodes rest : List Node) (path : List Decision) : Type 0 where
  pub goes_on : GoesOn nodes path
  pub fill : fills true (length (pending path)) rest ≡ true
  pub known : (l : Leaf) → Contains (visits (path ∷ pending path) rest) l → IsKnown task best l.path l.node
  pub lists : (q : List Decision) → Contains (path ∷ pending path) q → IsChoiceList task.net task.rows (task.base ++ q)

-- two further nodes would not keep to the budget, or the cost is at the limit
abbrev pub IsUsedUp : ℕ → ℕ → ℕ → ℕ → Type 0
IsUsedUp budget total limit c = (budget < total + 2) ⊎ (limit ≤ c)

-- each open leaf of a tree is used up
abbrev pub AreUsedUp : ℕ → ℕ → List Node → Type 0
AreUsedUp budget limit nodes = (c : ℕ) → Contains nodes (Open c) → IsUsedUp budget (length nodes) limit c

-- The first nodes of a tree are settled, and others are left. Together they keep to the budget, and where a node that costs
-- less than the limit was left open two further ones would not.
pub record IsSearched (task : Task) (limit best : ℕ) (nodes rest : List Node) (path : List Decision) : Type 0 where
  pub settled : (l : Leaf) → Contains (seen nodes) l → IsKnown task best l.path l.node
  pub few : length nodes + length rest ≤ task.budget
  pub used : (c : ℕ) → Contains nodes (Open c) → IsUsedUp task.budget (length nodes + length rest) limit c
  pub going : ((rest ≡ []) × (fills true 0 nodes ≡ true)) ⊎ IsGoing task best nodes rest path

-- every node of one tree is settled where the best choices are these
pub record Stands (task : Task) (nodes : List Node) (best : List Decision) (cost : ℕ) : Type 0 where
  pub known : (l : Leaf) → Contains (seen nodes) l → IsKnown task cost l.path l.node
  pub whole : fills true 0 nodes ≡ true
  pub few : length nodes ≤ task.budget
  pub are_best : AreBest task best cost

abbrev pub IsStanding : Task → Standing → Type 0
IsStanding task s = Stands task s.nodes.items s.best.choices s.best.cost

-- a leaf is searched where it costs less: at least up to the limit where two further nodes keep to the budget, and else not
pub record IsCeiling (budget total limit ceiling : ℕ) : Type 0 where
  pub room : 0 < ceiling → total + 2 ≤ budget
  pub used : (budget < total + 2) ⊎ (limit ≤ ceiling)

-- a leaf that is known at the path, and is open only where it costs at least so much
pub record IsSettled (task : Task) (path : List Decision) (best ceiling : ℕ) (n : Node) : Type 0 where
  pub is_leaf : choice_in n ≡ None
  pub known : IsKnown task best path n
  pub used : (c : ℕ) → n ≡ Open c → ceiling ≤ c

-- choices that cost no more than the best so far, and as much as the path when relaxed
pub record IsBetter (task : Task) (path : List Decision) (best : ℕ) (better : Best) : Type 0 where
  pub relaxed : CostsRelaxed task path better.cost
  pub are_best : AreBest task better.choices better.cost
  pub less : better.cost ≤ best

-- a choice of a true plan, of which the relaxed cost is below the ceiling
pub record IsSplit (task : Task) (path : List Decision) (ceiling : ℕ) (c : Choice) : Type 0 where
  pub inner : IsTrueInner task path c
  pub ordered : is_ordered c ≡ true
  pub below : 0 < ceiling

-- what is found at a leaf
abbrev pub IsFound : Task → List Decision → ℕ → ℕ → Found → Type 0
IsFound task path best ceiling (Settled n) = IsSettled task path best ceiling n
IsFound task path best ceiling (Better better) = IsBetter task path best better
IsFound task path best ceiling (Split c) = IsSplit task path ceiling c

-- what is found at a leaf that stays is the leaf
abbrev pub KeepsLeaf : Node → Found → Type 0
KeepsLeaf leaf (Settled n) = Stays leaf → leaf ≡ n
KeepsLeaf leaf (Better better) = Stays leaf → ⊥
KeepsLeaf leaf (Split c) = Stays leaf → ⊥

-- the tree with one node more settled, and the best choices then
pub record IsAdvanced (task : Task) (limit count cost : ℕ) (nodes rest : List Node) (path : List Decision) (best : Best) : Type 0 where
  pub searched : IsSearched task limit best.cost nodes rest path
  pub are_best : AreBest task best.choices best.cost
  pub no_dearer : best.cost ≤ cost
  pub one_more : length nodes ≡ count + 1
