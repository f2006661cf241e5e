-- Choices that a plan may have.
use Rattle.std.specs.Prelude.{ℕ, List, All, map}
use Rattle.dm_rows.specs.declared.messages.Decision.{Decision}
use Rattle.dm_rows.specs.Decide.{choice_of}
use Rattle.dm_tree.specs.Plans.{Task, AreSomeOf, DiffersFrom, CostsWith}

-- some of the choices allowed, in order, that differ from the rows and cost this
pub record AreChosen (task : Task) (choices : List Decision) (cost : ℕ) : Type 0 where
  pub some : AreSomeOf task.allowed (map choice_of choices)
  pub differ : All (DiffersFrom task) choices
  pub costs : CostsWith task choices cost
