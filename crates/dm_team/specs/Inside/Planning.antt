-- What a guide leads to, and what was found once the word is closed.
use Rattle.std.specs.Prelude.{ℕ, ◌≡◌, ◌<◌, ◌≤◌, List, All}
use Rattle.dm_rows.specs.declared.messages.Decision.{Decision}
use Rattle.dm_tree.specs.declared.forms.Leaf.{Leaf}
use Rattle.dm_bound.specs.Words.{nothing_looked}
use Rattle.dm_traverse.specs.declared.steps.Outcome.{Outcome}
use Rattle.dm_traverse.specs.declared.steps.Outcome.TheVariants.{Cycle, Pruned, Solved, Branch}
use Rattle.dm_team.specs.Ways.{StandApart}
use Rattle.dm_team.specs.Nodes.{GuidedTask}
use Rattle.dm_team.specs.Found.{IsHandedIn, AreKept}

-- the choices that an outcome solves, and else those that were kept
abbrev pub IsBetterBy : List Decision → ℕ → Outcome → List Decision → ℕ → Type 0
IsBetterBy before least Cycle kept cost = (kept ≡ before) × (cost ≡ least)
IsBetterBy before least (Pruned c) kept cost = (kept ≡ before) × (cost ≡ least)
IsBetterBy before least (Solved c choices) kept cost = (kept ≡ choices) × (cost ≡ c)
IsBetterBy before least (Branch c choice) kept cost = (kept ≡ before) × (cost ≡ least)

-- What was found, where a value at which bounds may have been shown is no less than what the kept choices cost.
pub record IsClosed (task : GuidedTask) (own : ℕ) (leaves : List Leaf) (choices : List Decision) (cost : ℕ) : Type 0 where
  pub looked : ℕ
  pub pruned : looked < nothing_looked → cost ≤ looked
  pub apart : StandApart leaves
  pub ends : All (IsHandedIn task cost looked) leaves
  pub kept : AreKept task.task own choices cost
