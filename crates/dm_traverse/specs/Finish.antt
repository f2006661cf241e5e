-- From what a search goes on to a true plan.
use Rattle.std.specs.Prelude.{ℕ, ◌≡◌, ◌≤◌, List, [], ◌∷◌, length, map, All}
use Rattle.dm_network.specs.Net.{Net}
use Rattle.dm_network.specs.Start.{IsNetwork}
use Rattle.dm_rows.specs.declared.messages.Choice.{Choice}
use Rattle.dm_rows.specs.declared.messages.Decision.{Decision}
use Rattle.dm_rows.specs.Rows.{RowsValue}
use Rattle.dm_rows.specs.Active.{HasNoCycle}
use Rattle.dm_rows.specs.Cost.{Costs}
use Rattle.dm_rows.specs.Decide.{choice_of, with_decisions}
use Rattle.dm_tree.specs.declared.forms.Node.{Node}
use Rattle.dm_tree.specs.declared.forms.Node.TheVariants.{Inner, Cycle, Bound, Open, Hole}
use Rattle.dm_tree.specs.Trees.{Shape, preorder, IsProper, StandsAt, Assembles}
use Rattle.dm_tree.specs.Plans.{Task, whole_task, AreSomeOf, DiffersFrom, CostsWith, IsViolatedThere, IsTrueInner, IsTrueCycle, IsTrueBound}

-- What is known of a node where the best choices so far cost this: a choice, a cycle and a bound are as in a true plan of
-- that cost; an open leaf carries its relaxed cost, and some undecided choice is violated there; of a hole nothing is known.
abbrev pub IsKnown : Task → ℕ → List Decision → Node → Type 0
IsKnown task best path (Inner choice) = IsTrueInner task path choice
IsKnown task best path Cycle = IsTrueCycle task path
IsKnown task best path (Bound c) = IsTrueBound task best path c
IsKnown task best path (Open c) = (choice : Choice) × IsViolatedThere task path choice c
IsKnown task best path Hole = Unit {0}

-- The nodes are one tree in preorder that keeps to the budget, and the choices are some of those allowed, in order, that
-- differ from the rows. Neither the rows nor the rows with these choices have a cycle, and with the choices the rows cost no
-- more than by themselves. What is said of each node is known where the best choices are these.
pub record IsStart (task : Task) (nodes : List Node) (best : List Decision) : Type 0 where
  pub no_cycle : HasNoCycle task.net task.rows
  pub choices : AreSomeOf task.allowed (map choice_of best)
  pub differ : All (DiffersFrom task) best
  pub no_cycle_with : HasNoCycle task.net (with_decisions task.net task.rows best)
  pub no_dearer : (c own : ℕ) → CostsWith task best c → Costs task.net task.rows task.penalty own → c ≤ own
  pub few : length nodes ≤ task.budget
  pub shape : Shape
  pub in_preorder : preorder shape ≡ nodes
  pub proper : IsProper shape
  pub known : (c : ℕ) → CostsWith task best c → (path : List Decision) (n : Node) → StandsAt shape path n →
      IsKnown task c path n

-- a node that a search leaves as it is: each one but a hole and an open leaf
abbrev pub Stays : Node → Type 0
Stays (Inner choice) = Unit {0}
Stays Cycle = Unit {0}
Stays (Bound c) = Unit {0}
Stays (Open c) = ⊥
Stays Hole = ⊥

-- One tree goes on from another, both in preorder: each choice, cycle and bound of the other stands in it at the same path.
abbrev pub GoesOnFrom : List Node → List Node → Type 0
GoesOnFrom before after =
    (old new : Shape) → IsProper old → preorder old ≡ before → IsProper new → preorder new ≡ after →
    (path : List Decision) (n : Node) → Stays n → StandsAt old path n → StandsAt new path n

-- No leaves make a tree of one hole. Where the rows have no cycle, it is a start with no choices.
pub record AHoleIsAStart : Type 0 where
  pub hole : (nodes : List Node) → Assembles [] nodes → nodes ≡ Hole ∷ []
  pub start : (net : Net) (rows : RowsValue) (penalty budget : ℕ) → IsNetwork net → HasNoCycle net rows → 1 ≤ budget →
      IsStart (whole_task net rows penalty budget) (Hole ∷ []) []
