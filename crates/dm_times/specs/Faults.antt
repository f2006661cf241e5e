-- Why rows have no times.
use Rattle.std.specs.Prelude.{ℕ, Bool}
use Rattle.dm_network.specs.Net.{Net}
use Rattle.dm_network.specs.Held.{ShowsCycleOf}
use Rattle.dm_rows.specs.Active.{is_active}
use Rattle.dm_rows.specs.Rows.{RowsValue}
use Rattle.dm_settle.specs.declared.faults.NoTimes.{NoTimes}
use Rattle.dm_settle.specs.declared.faults.NoTimes.TheVariants.{Cycle, OutOfMemory}

-- the cycle is one of held activities; want of memory may come at any time
abbrev pub RefusesHolding : Net → (ℕ → Bool) → NoTimes → Type 0
RefusesHolding net held (Cycle ids) = ShowsCycleOf net held ids
RefusesHolding net held OutOfMemory = Unit {0}

-- the cycle is one of the rows
abbrev pub RefusesTimes : Net → RowsValue → NoTimes → Type 0
RefusesTimes net rows fault = RefusesHolding net (is_active net rows) fault
