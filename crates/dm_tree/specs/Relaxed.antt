-- The relaxed problem of a path: the timetables over the activities that it holds, and their cost.
use Rattle.std.specs.Prelude.{ℕ, List, Contains}
use Rattle.dm_network.specs.Net.{Net}
use Rattle.dm_network.specs.Held.{IsCycleOf, HasNoCycleOf}
use Rattle.dm_rows.specs.declared.messages.Decision.{Decision}
use Rattle.dm_rows.specs.declared.messages.Choice.{Choice}
use Rattle.dm_rows.specs.Rows.{RowsValue}
use Rattle.dm_rows.specs.Timetable.{IsLeastHolding}
use Rattle.dm_rows.specs.Cost.{cost_charging, CostsHolding}
use Rattle.dm_rows.specs.Decide.{with_decisions}
use Rattle.dm_rows.specs.Relax.{is_relaxed_active, is_relaxed_lost, violated_choices_of}

-- A timetable is least in the relaxed problem of a path where it is least for the rows with the path's decisions, holding
-- what is active there but for the activities of undecided choices.
abbrev pub IsRelaxedLeast : Net → RowsValue → List Decision → List ℕ → Type 0
IsRelaxedLeast net rows path x =
    IsLeastHolding net (with_decisions net rows path) (is_relaxed_active net rows path) x

-- The relaxed cost: weight times lateness over the arrivals that are not cancelled, and the penalty for each cancelled arrival, for
-- each lost change that the path decides or that is not free, and for each frozen miss.
abbrev pub relaxed_cost_of : Net → RowsValue → List Decision → List ℕ → ℕ → ℕ
relaxed_cost_of net rows path x penalty =
    cost_charging net (with_decisions net rows path) (is_relaxed_lost net rows path) x penalty

-- the relaxed problem of the path costs c: the relaxed cost of its least timetable
abbrev pub RelaxedCosts : Net → RowsValue → List Decision → ℕ → ℕ → Type 0
RelaxedCosts net rows path penalty c =
    CostsHolding net (with_decisions net rows path) (is_relaxed_active net rows path) (is_relaxed_lost net rows path) penalty c

-- a cycle of what the relaxed problem holds, and that there is none
abbrev pub IsRelaxedCycle : Net → RowsValue → List Decision → List ℕ → Type 0
IsRelaxedCycle net rows path cycle = IsCycleOf net (is_relaxed_active net rows path) cycle

abbrev pub HasNoRelaxedCycle : Net → RowsValue → List Decision → Type 0
HasNoRelaxedCycle net rows path = HasNoCycleOf net (is_relaxed_active net rows path)

-- the choice is free, the path leaves it undecided, and the timetable does not keep it
abbrev pub IsViolated : Net → RowsValue → List Decision → List ℕ → Choice → Type 0
IsViolated net rows path x choice = Contains (violated_choices_of net rows path x) choice
