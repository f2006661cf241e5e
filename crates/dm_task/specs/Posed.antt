-- Tasks in which some free choices stand as the rows have them.
use Rattle.std.specs.Prelude.{ℕ, ◌≤◌, not, IsTrue, List, filter, All}
use Rattle.dm_base.specs.declared.limits.TheConstants.{PENALTY, BUDGET}
use Rattle.dm_network.specs.Net.{Net}
use Rattle.dm_rows.specs.declared.messages.Decision.{Decision}
use Rattle.dm_rows.specs.declared.messages.Choice.{Choice}
use Rattle.dm_rows.specs.Rows.{RowsValue, IsSized}
use Rattle.dm_rows.specs.Resolve.{flip_named}
use Rattle.dm_rows.specs.Decide.{free_choices_of, IsChoiceList}
use Rattle.dm_rows.specs.Relax.{is_decided}
use Rattle.dm_tree.specs.Plans.{Task, is_set}

-- the free choices that a base leaves to be made, in their order
abbrev pub choices_beside : Net → RowsValue → List Decision → List Choice
choices_beside net rows base = filter (λ c. not (is_decided base c)) (free_choices_of net rows)

-- the task in which every path begins with the base, and every other free choice may be made
abbrev pub task_beside : Net → RowsValue → ℕ → List Decision → ℕ → Task
task_beside net rows penalty base budget =
    record {
      net = net;
      rows = rows;
      penalty = penalty;
      base = base;
      allowed = choices_beside net rows base;
      budget = budget;
    }

-- The rows are of the network, penalty and budget are within their limits, and the base decides free choices, none twice, as
-- the rows have them.
pub record IsPosed (net : Net) (rows : RowsValue) (penalty : ℕ) (base : List Decision) (budget : ℕ) : Type 0 where
  pub sized : IsSized net rows
  pub within : penalty ≤ PENALTY
  pub few : budget ≤ BUDGET
  pub decides : IsChoiceList net rows base
  pub as_the_rows : All (λ d. IsTrue (is_set rows (flip_named net d))) base
