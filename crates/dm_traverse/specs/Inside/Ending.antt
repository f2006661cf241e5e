-- A plan from the nodes of a tree of which every node is settled.
use Rattle.std.specs.Prelude.{ℕ, ◌≡◌, min, nat_le, Bool, true, false, List, map, fold, Option, Some, None, if◌then◌else◌}
use Rattle.std.specs.List.{list_any}
use Rattle.dm_rows.specs.declared.messages.Decision.{Decision}
use Rattle.dm_tree.specs.declared.forms.Mark.{Mark}
use Rattle.dm_tree.specs.declared.forms.Mark.TheVariants.{Optimal, Open as OpenMark}
use Rattle.dm_tree.specs.declared.forms.Node.{Node}
use Rattle.dm_tree.specs.declared.forms.Node.TheVariants.{Inner, Cycle, Bound, Open, Hole}
use Rattle.dm_tree.specs.declared.plans.Plan.{Plan}
use Rattle.dm_tree.specs.Trees.{IsTree}

-- an open leaf that costs no less than the best choices is a bound
abbrev pub closed : ℕ → Node → Node
closed best (Inner choice) = Inner choice
closed best Cycle = Cycle
closed best (Bound c) = Bound c
closed best (Open c) = if nat_le best c then Bound c else Open c
closed best Hole = Hole

-- the cost that a leaf carries
abbrev pub carried : Node → Option ℕ
carried (Inner choice) = None
carried Cycle = None
carried (Bound c) = Some c
carried (Open c) = Some c
carried Hole = None

abbrev pub least_with : ℕ → Option ℕ → ℕ
least_with bound (Some c) = min bound c
least_with bound None = bound

-- the least cost that a leaf carries, where one carries at most the cost of the best choices
abbrev pub bound_of : ℕ → List Node → ℕ
bound_of best nodes = fold (λ bound n. least_with bound (carried n)) best nodes

abbrev pub is_open : Node → Bool
is_open (Inner choice) = false
is_open Cycle = false
is_open (Bound c) = false
is_open (Open c) = true
is_open Hole = false

abbrev pub mark_of : List Node → Mark
mark_of nodes = if list_any is_open nodes then OpenMark else Optimal

-- the plan of these nodes and choices
pub record IsPlanOf (entry : ℕ) (nodes : List Node) (choices : List Decision) (cost : ℕ) (plan : Plan) : Type 0 where
  pub of_entry : plan.entry ≡ entry
  pub with_choices : plan.choices ≡ choices
  pub of_cost : plan.cost ≡ cost
  pub of_nodes : plan.tree ≡ map (closed cost) nodes
  pub whole : IsTree plan.tree
  pub bounded : plan.bound ≡ bound_of cost plan.tree
  pub marked : plan.mark ≡ mark_of plan.tree
