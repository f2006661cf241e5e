-- To what choices a guide leads, and what a plan is that workers make together.
use Rattle.std.specs.Prelude.{ℕ, ◌≡◌, ◌<◌, ◌≤◌, List, length, All, None}
use Rattle.atomic_table.specs.Seated.{TableId}
use Rattle.dm_rows.specs.declared.messages.Decision.{Decision}
use Rattle.dm_rows.specs.Decide.{IsChoiceList}
use Rattle.dm_tree.specs.declared.forms.Leaf.{Leaf}
use Rattle.dm_tree.specs.declared.plans.Plan.{Plan}
use Rattle.dm_tree.specs.Pending.{IsFront}
use Rattle.dm_tree.specs.Plans.{Task}
use Rattle.dm_tree.specs.Relaxed.{IsRelaxedLeast, relaxed_cost_of, HasNoRelaxedCycle}
use Rattle.dm_relax.specs.Relaxed.{first_violated}
use Rattle.dm_bound.specs.Words.{HandValue, nothing_looked}
use Rattle.dm_deques.specs.Deques.{TallyValue}
use Rattle.dm_team.specs.Nodes.{GuidedTask}
use Rattle.dm_team.specs.Accounts.{Path, IsAccounted, IsDrained}
use Rattle.dm_team.specs.Found.{IsOwnCost, IsFound, GrowsFrom}

-- The path begins with the task's base and decides free choices, none twice. Its relaxed problem has no cycle, its least times
-- violate nothing, and they cost this. So it leads to choices of this cost.
pub record LeadsTo (task : Task) (path : List Decision) (c : ℕ) : Type 0 where
  pub begins : IsFront task.base path
  pub list : IsChoiceList task.net task.rows path
  pub no_cycle : HasNoRelaxedCycle task.net task.rows path
  pub times : List ℕ
  pub least : IsRelaxedLeast task.net task.rows path times
  pub nothing : first_violated task.net task.rows path times ≡ None
  pub cost : c ≡ relaxed_cost_of task.net task.rows path times task.penalty

-- The plan is made of what so many workers found and gave up of a guide's tree, by the hand of a word: it costs no more than the
-- choices that they found, and than each value of the word at which they may have pruned, and its tree goes on from their leaves.
pub record IsMadeTogether (task : GuidedTask) (own workers : ℕ) (word : TableId) (plan : Plan) : Type 0 where
  pub hand : HandValue
  pub owners : List (TallyValue Path)
  pub leaves : List Leaf
  pub given_up : List Path
  pub choices : List Decision
  pub cost : ℕ
  pub of_word : hand.word ≡ word
  pub found : IsFound task own hand leaves choices cost
  pub accounted : IsAccounted task owners leaves given_up
  pub drained : All IsDrained owners
  pub many : length owners ≡ workers
  pub no_dearer : plan.cost ≤ cost
  pub pruned : hand.looked < nothing_looked → plan.cost ≤ hand.looked
  pub grows : GrowsFrom task.task.budget leaves plan.tree

-- so many workers made it together, led by some guide, and it costs no more than the choices to which that one leads
pub record IsPlanOfWorkers (task : Task) (workers : ℕ) (plan : Plan) : Type 0 where
  pub guided : GuidedTask
  pub of_task : guided.task ≡ task
  pub own : ℕ
  pub of_rows : IsOwnCost task own
  pub word : TableId
  pub together : IsMadeTogether guided own workers word plan
  pub path : List Decision
  pub led : (c : ℕ) → LeadsTo task path c → plan.cost ≤ c
