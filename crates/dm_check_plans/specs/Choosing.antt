-- What the choices of a plan are.
use Rattle.std.specs.Prelude.{ℕ, List, map, All}
use Rattle.dm_rows.specs.declared.messages.Decision.{Decision}
use Rattle.dm_rows.specs.Decide.{choice_of}
use Rattle.dm_tree.specs.Plans.{Task, AreSomeOf, DiffersFrom, CostsWith}

-- the choices are some of those allowed, in their order, differ from the rows, and make them cost this
pub record AreTrueChoices (task : Task) (choices : List Decision) (cost : ℕ) : Type 0 where
  pub in_order : AreSomeOf task.allowed (map choice_of choices)
  pub differ : All (DiffersFrom task) choices
  pub costs : CostsWith task choices cost
