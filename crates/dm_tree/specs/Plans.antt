-- What a true plan of rows is, and which choices are optimal.
use Rattle.std.specs.Prelude.{ℕ, ◌≡◌, ◌+◌, ◌<◌, ◌≤◌, ◌⊎◌, ◌↔◌, Bool, true, false, not, IsTrue, List, [], ◌∷◌, ◌++◌, length, map, All, Contains, Option, Some, None}
use Rattle.dm_network.specs.Net.{Net}
use Rattle.dm_rows.specs.declared.messages.Decision.{Decision}
use Rattle.dm_rows.specs.declared.messages.Choice.{Choice}
use Rattle.dm_rows.specs.declared.messages.Flip.{Flip}
use Rattle.dm_rows.specs.declared.messages.Flip.TheVariants.{Keep, Drop, First}
use Rattle.dm_rows.specs.Rows.{RowsValue, kept_at, small_first_at}
use Rattle.dm_rows.specs.Resolve.{flip_named}
use Rattle.dm_rows.specs.Active.{HasNoCycle}
use Rattle.dm_rows.specs.Cost.{Costs}
use Rattle.dm_rows.specs.Decide.{free_choices_of, choice_of, IsChoiceList, with_decisions}
use Rattle.dm_tree.specs.declared.forms.Node.TheVariants.{Inner, Cycle, Bound, Open}
use Rattle.dm_tree.specs.declared.forms.Mark.TheVariants.{Optimal, Open as OpenMark}
use Rattle.dm_tree.specs.declared.plans.Plan.{Plan}
use Rattle.dm_tree.specs.declared.adopting.Chosen.{Chosen}
use Rattle.dm_tree.specs.Trees.{Shape, preorder, IsProper, IsWhole, StandsAt}
use Rattle.dm_tree.specs.Relaxed.{IsRelaxedLeast, relaxed_cost_of, RelaxedCosts, IsRelaxedCycle, HasNoRelaxedCycle, IsViolated}

-- What a plan is made for: a network, its rows, the penalty, the decisions that every path begins with, the choices that may
-- be made, in order, and how many nodes the tree may have.
pub record Task : Type 0 where
  pub net : Net
  pub rows : RowsValue
  pub penalty : ℕ
  pub base : List Decision
  pub allowed : List Choice
  pub budget : ℕ

-- the task of a whole network: nothing is decided before, and every free choice may be made
abbrev pub whole_task : Net → RowsValue → ℕ → ℕ → Task
whole_task net rows penalty budget =
    record {
      net = net;
      rows = rows;
      penalty = penalty;
      base = [];
      allowed = free_choices_of net rows;
      budget = budget;
    }

-- these are some of the choices allowed, in their order, each taken at most once
abbrev pub AreSomeOf : List Choice → List Choice → Type 0
AreSomeOf [] chosen = chosen ≡ []
AreSomeOf (a ∷ allowed) [] = Unit {0}
AreSomeOf (a ∷ allowed) (c ∷ chosen) = ((a ≡ c) × AreSomeOf allowed chosen) ⊎ AreSomeOf allowed (c ∷ chosen)

-- the rows have the decision already
abbrev pub is_set : RowsValue → Option Flip → Bool
is_set rows (Some (Keep a)) = kept_at rows a
is_set rows (Some (Drop a)) = not (kept_at rows a)
is_set rows (Some (First p true)) = small_first_at rows p
is_set rows (Some (First p false)) = not (small_first_at rows p)
is_set rows None = true

-- the decision is not what the rows have
abbrev pub DiffersFrom : Task → Decision → Type 0
DiffersFrom task d = IsTrue (not (is_set task.rows (flip_named task.net d)))

-- the rows with the decisions set have no cycle and cost c
pub record CostsWith (task : Task) (decisions : List Decision) (c : ℕ) : Type 0 where
  pub no_cycle : HasNoCycle task.net (with_decisions task.net task.rows decisions)
  pub cost : Costs task.net (with_decisions task.net task.rows decisions) task.penalty c

-- the relaxed problem of a path behind the base costs c
abbrev pub CostsRelaxed : Task → List Decision → ℕ → Type 0
CostsRelaxed task path c = RelaxedCosts task.net task.rows (task.base ++ path) task.penalty c

-- some undecided choice is violated where the relaxed problem of the path has its least times, and costs c there
pub record IsViolatedThere (task : Task) (path : List Decision) (choice : Choice) (c : ℕ) : Type 0 where
  pub times : List ℕ
  pub least : IsRelaxedLeast task.net task.rows (task.base ++ path) times
  pub cost : c ≡ relaxed_cost_of task.net task.rows (task.base ++ path) times task.penalty
  pub violated : IsViolated task.net task.rows (task.base ++ path) times choice

-- A choice of the tree: the relaxed problem of its path has no cycle, the choice is allowed, and is undecided and violated
-- there, and the relaxed cost is below the cost of the rows themselves.
pub record IsTrueInner (task : Task) (path : List Decision) (choice : Choice) : Type 0 where
  pub no_cycle : HasNoRelaxedCycle task.net task.rows (task.base ++ path)
  pub allowed : Contains task.allowed choice
  pub cost : ℕ
  pub violated : IsViolatedThere task path choice cost
  pub own_cost : ℕ
  pub of_rows : Costs task.net task.rows task.penalty own_cost
  pub cheaper : cost < own_cost

-- a Cycle leaf: the relaxed problem of its path has a cycle
pub record IsTrueCycle (task : Task) (path : List Decision) : Type 0 where
  pub cycle : List ℕ
  pub is_cycle : IsRelaxedCycle task.net task.rows (task.base ++ path) cycle

-- a Bound leaf: it carries its relaxed cost, which is at least the plan's
pub record IsTrueBound (task : Task) (plan_cost : ℕ) (path : List Decision) (c : ℕ) : Type 0 where
  pub cost : CostsRelaxed task path c
  pub no_less : plan_cost ≤ c

-- an Open leaf: it carries its relaxed cost, which is below the plan's, and some undecided choice is violated there
pub record IsTrueOpen (task : Task) (plan_cost : ℕ) (path : List Decision) (c : ℕ) : Type 0 where
  pub choice : Choice
  pub violated : IsViolatedThere task path choice c
  pub less : c < plan_cost

-- some Bound or Open leaf has this cost, and no other has a smaller one
pub record IsLeastOfLeaves (shape : Shape) (bound : ℕ) : Type 0 where
  pub path : List Decision
  pub reached : StandsAt shape path (Bound bound) ⊎ StandsAt shape path (Open bound)
  pub below_bounds : (p : List Decision) (c : ℕ) → StandsAt shape p (Bound c) → bound ≤ c
  pub below_opens : (p : List Decision) (c : ℕ) → StandsAt shape p (Open c) → bound ≤ c

-- no leaf is open
abbrev pub HasNoOpen : Shape → Type 0
HasNoOpen shape = (path : List Decision) (c : ℕ) → StandsAt shape path (Open c) → ⊥

-- A true plan: its choices are allowed, in order and none twice, and differ from the rows; with them the rows have no
-- cycle and cost what the plan says; its nodes are one whole tree, of which every node is true; its bound is the least cost
-- of a leaf; it is marked Optimal exactly where no leaf is open; the tree keeps to the budget; and where the plan is marked
-- Open two further nodes would not.
pub record IsTruePlan (task : Task) (plan : Plan) : Type 0 where
  pub choices : AreSomeOf task.allowed (map choice_of plan.choices)
  pub differ : All (DiffersFrom task) plan.choices
  pub cost : CostsWith task plan.choices plan.cost
  pub shape : Shape
  pub in_preorder : preorder shape ≡ plan.tree
  pub proper : IsProper shape
  pub whole : IsWhole shape
  pub inners : (path : List Decision) (choice : Choice) → StandsAt shape path (Inner choice) → IsTrueInner task path choice
  pub cycles : (path : List Decision) → StandsAt shape path Cycle → IsTrueCycle task path
  pub bounds : (path : List Decision) (c : ℕ) → StandsAt shape path (Bound c) → IsTrueBound task plan.cost path c
  pub opens : (path : List Decision) (c : ℕ) → StandsAt shape path (Open c) → IsTrueOpen task plan.cost path c
  pub bound : IsLeastOfLeaves shape plan.bound
  pub mark : (plan.mark ≡ Optimal) ↔ HasNoOpen shape
  pub size : length plan.tree ≤ task.budget
  pub used : plan.mark ≡ OpenMark → task.budget < length plan.tree + 2

-- what an adoption takes of a plan for the rows after so many entries
abbrev pub chosen : ℕ → List Decision → Chosen
chosen entry choices = record { entry = entry; choices = choices }

-- Choices that may be adopted: free choices of the rows, in order and none twice, with which the rows have no cycle.
pub record MayBeAdopted (net : Net) (rows : RowsValue) (choices : List Decision) : Type 0 where
  pub free : AreSomeOf (free_choices_of net rows) (map choice_of choices)
  pub no_cycle : HasNoCycle net (with_decisions net rows choices)

-- Choices that cost c are optimal among those allowed where no choices allowed cost less.
pub record IsOptimal (task : Task) (choices : List Decision) (c : ℕ) : Type 0 where
  pub decides : IsChoiceList task.net task.rows choices
  pub allowed : All (λ d. Contains task.allowed (choice_of d)) choices
  pub cost : CostsWith task choices c
  pub least : (others : List Decision) (other : ℕ) → IsChoiceList task.net task.rows others →
      All (λ d. Contains task.allowed (choice_of d)) others → CostsWith task others other → c ≤ other
