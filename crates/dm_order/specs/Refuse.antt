-- Why rows have no order.
use Rattle.std.specs.Prelude.{ℕ, List}
use Rattle.dm_network.specs.Net.{Net}
use Rattle.dm_rows.specs.Rows.{RowsValue}
use Rattle.dm_rows.specs.Active.{IsCycle}
use Rattle.dm_order.specs.declared.faults.OrderFault.{OrderFault}
use Rattle.dm_order.specs.declared.faults.OrderFault.TheVariants.{Cyclic, OutOfMemory}

-- the rows have a cycle
pub record HasCycle (net : Net) (rows : RowsValue) : Type 0 where
  pub cycle : List ℕ
  pub is_cycle : IsCycle net rows cycle

abbrev pub RefusesOrder : Net → RowsValue → OrderFault → Type 0
RefusesOrder net rows Cyclic = HasCycle net rows
RefusesOrder net rows OutOfMemory = Unit {0}
