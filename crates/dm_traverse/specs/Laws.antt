-- What a true plan shows.
use Rattle.std.specs.Prelude.{ℕ, ◌≡◌, ◌+◌, ◌^◌, ◌≤◌, ◌⊎◌, IsTrue, List, length, All, Contains, Some, slice_get}
use Rattle.dm_network.specs.Net.{Net}
use Rattle.dm_network.specs.Start.{IsNetwork}
use Rattle.dm_rows.specs.declared.messages.Choice.{Choice}
use Rattle.dm_rows.specs.declared.messages.Decision.{Decision}
use Rattle.dm_rows.specs.Rows.{RowsValue, IsSized}
use Rattle.dm_rows.specs.Resolve.{flip_named}
use Rattle.dm_rows.specs.Decide.{free_choices_of, choice_of, IsChoiceList}
use Rattle.dm_rows.specs.Relax.{is_decided}
use Rattle.dm_tree.specs.declared.forms.Mark.TheVariants.{Optimal}
use Rattle.dm_tree.specs.declared.plans.Plan.{Plan}
use Rattle.dm_tree.specs.Plans.{Task, whole_task, is_set, CostsWith, IsTruePlan, IsOptimal}

-- A task whose choices are made over a network's rows: the choices allowed are free, none twice; what every path begins with
-- decides other free choices, as the rows have them; and each free choice is allowed or decided so.
pub record IsTask (task : Task) : Type 0 where
  pub network : IsNetwork task.net
  pub sized : IsSized task.net task.rows
  pub free : All (Contains (free_choices_of task.net task.rows)) task.allowed
  pub once : (m n : ℕ) (c : Choice) → slice_get task.allowed m ≡ Some c → slice_get task.allowed n ≡ Some c → m ≡ n
  pub base : IsChoiceList task.net task.rows task.base
  pub as_the_rows : All (λ d. IsTrue (is_set task.rows (flip_named task.net d))) task.base
  pub apart : (d : Decision) → Contains task.base d → Contains task.allowed (choice_of d) → ⊥
  pub covers : (c : Choice) → Contains (free_choices_of task.net task.rows) c →
      IsTrue (is_decided task.base c) ⊎ Contains task.allowed c

-- these are a choice list within the choices allowed, without a cycle, and cost c
pub record CostsWithin (task : Task) (decisions : List Decision) (c : ℕ) : Type 0 where
  pub decides : IsChoiceList task.net task.rows decisions
  pub allowed : All (λ d. Contains task.allowed (choice_of d)) decisions
  pub cost : CostsWith task decisions c

-- The choices of a true plan that is marked Optimal are optimal, and its bound is its cost. No choices cost less than the
-- bound of a true plan. With k choices allowed a budget of 2^(k+1) - 1 nodes makes it Optimal. All this holds of the task of
-- a whole network.
pub record OptimalPlansAreOptimal : Type 0 where
  pub optimal : (task : Task) (plan : Plan) → IsTask task → IsTruePlan task plan → plan.mark ≡ Optimal →
      IsOptimal task plan.choices plan.cost × (plan.bound ≡ plan.cost)
  pub bound : (task : Task) (plan : Plan) (decisions : List Decision) (c : ℕ) → IsTask task → IsTruePlan task plan →
      CostsWithin task decisions c → plan.bound ≤ c
  pub enough : (task : Task) (plan : Plan) → IsTask task → IsTruePlan task plan →
      2 ^ (length task.allowed + 1) ≤ task.budget + 1 → plan.mark ≡ Optimal
  pub whole : (net : Net) (rows : RowsValue) (penalty budget : ℕ) → IsNetwork net → IsSized net rows →
      IsTask (whole_task net rows penalty budget)
