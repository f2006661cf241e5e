-- The nodes of a tree, visited in preorder, each at its path.
use Rattle.std.specs.Prelude.{ℕ, ◌≡◌, ◌⊎◌, Bool, true, false, List, [], ◌∷◌, ◌++◌, length, All}
use Rattle.dm_network.specs.Net.{Net}
use Rattle.dm_rows.specs.declared.messages.Decision.{Decision}
use Rattle.dm_rows.specs.Rows.{RowsValue}
use Rattle.dm_rows.specs.Sides.{first_decision, IsOrdered}
use Rattle.dm_tree.specs.declared.forms.Node.{Node}
use Rattle.dm_tree.specs.declared.forms.Node.TheVariants.{Inner}
use Rattle.dm_tree.specs.Inside.Filling.{fills, visits}
use Rattle.dm_tree.specs.Pending.{pending}
use Rattle.dm_paths.specs.Decisions.{IsOpen}
use Rattle.dm_check_plans.specs.Inside.Leaves.{is_at, is_below, SomeNode, NoneNode}

-- this holds of each node at its path, where these paths lead to the places that are due
abbrev pub HoldsOfAll : (List Decision → Node → Type 0) → List (List Decision) → List Node → Type 0
HoldsOfAll P due nodes = All (λ l. P l.path l.node) (visits due nodes)

-- It holds of all nodes exactly where it does of those left, of which the first stands at the path.
pub record IsLeftToVisit (P : List Decision → Node → Type 0) (nodes rest : List Node) (path : List Decision) : Type 0 where
  pub all : HoldsOfAll P (path ∷ pending path) rest → HoldsOfAll P ([] ∷ []) nodes
  pub left : HoldsOfAll P ([] ∷ []) nodes → HoldsOfAll P (path ∷ pending path) rest
  pub filled : (rest ≡ []) ⊎ (fills false (length (pending path)) rest ≡ true)

-- where the node is a choice, it is free, and the path leaves it undecided
abbrev pub IsNextOpen : Net → RowsValue → List Decision → Node → Type 0
IsNextOpen net rows path (Inner choice) = IsOpen net rows path choice × IsOrdered choice
IsNextOpen net rows path _ = Unit {0}

-- behind a choice comes its first child, behind a leaf the next place that is due, where one is
abbrev pub GoesOn : Node → Bool → List Decision → List Decision → Type 0
GoesOn (Inner choice) true old new = new ≡ old ++ first_decision choice ∷ []
GoesOn (Inner choice) false old new = ⊥
GoesOn _ true old new = pending old ≡ new ∷ pending new
GoesOn _ false old new = pending old ≡ []

-- some leaf carries this cost, and none a smaller one
pub record IsLeastCarried (nodes : List Node) (bound : ℕ) : Type 0 where
  pub reached : SomeNode (is_at bound) nodes
  pub below : NoneNode (is_below bound) nodes (length nodes)
