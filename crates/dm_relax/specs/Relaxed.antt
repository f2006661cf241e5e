-- What the relaxed problem of a path gives.
use Rattle.std.specs.Prelude.{ℕ, ◌≡◌, List, Option, slice_get}
use Rattle.dm_network.specs.Net.{Net}
use Rattle.dm_rows.specs.declared.messages.Decision.{Decision}
use Rattle.dm_rows.specs.declared.messages.Choice.{Choice}
use Rattle.dm_rows.specs.Rows.{RowsValue}
use Rattle.dm_rows.specs.Relax.{is_relaxed_active, violated_choices_of}
use Rattle.dm_settle.specs.declared.faults.NoTimes.{NoTimes}
use Rattle.dm_times.specs.Faults.{RefusesHolding}
use Rattle.dm_tree.specs.Relaxed.{IsRelaxedLeast, relaxed_cost_of}
use Rattle.dm_relax.specs.declared.relaxing.Relaxed.{Relaxed}

-- the first violated choice in the order of the free choices, or None where nothing is violated
abbrev pub first_violated : Net → RowsValue → List Decision → List ℕ → Option Choice
first_violated net rows path x = slice_get (violated_choices_of net rows path x) 0

-- the least times of the relaxed problem, their cost, and the first choice that they violate
pub record IsRelaxed (net : Net) (rows : RowsValue) (path : List Decision) (penalty : ℕ) (relaxed : Relaxed) : Type 0 where
  pub times : IsRelaxedLeast net rows path relaxed.times
  pub cost : relaxed.cost ≡ relaxed_cost_of net rows path relaxed.times penalty
  pub violated : relaxed.violated ≡ first_violated net rows path relaxed.times

-- the cycle is one of what the relaxed problem holds; want of memory may come at any time
abbrev pub RefusesRelaxed : Net → RowsValue → List Decision → NoTimes → Type 0
RefusesRelaxed net rows path fault = RefusesHolding net (is_relaxed_active net rows path) fault
