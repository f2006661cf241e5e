-- What a search does with a path.
use Rattle.std.specs.Prelude.{ℕ, ◌≡◌, ◌<◌, ◌≤◌, ◌⊎◌, List, Option, Some, None}
use Rattle.dm_network.specs.Net.{Net}
use Rattle.dm_rows.specs.declared.messages.Decision.{Decision}
use Rattle.dm_rows.specs.declared.messages.Choice.{Choice}
use Rattle.dm_rows.specs.Rows.{RowsValue}
use Rattle.dm_tree.specs.Relaxed.{IsRelaxedLeast, relaxed_cost_of, IsRelaxedCycle, HasNoRelaxedCycle, IsViolated}
use Rattle.dm_relax.specs.Complete.{completion_of, differences_from}
use Rattle.dm_relax.specs.Relaxed.{first_violated}
use Rattle.dm_traverse.specs.declared.steps.Outcome.{Outcome}
use Rattle.dm_traverse.specs.declared.steps.Outcome.TheVariants.{Cycle, Pruned, Solved, Branch}

-- what the relaxed problem of the path holds has a cycle
pub record HasRelaxedCycle (net : Net) (rows : RowsValue) (path : List Decision) : Type 0 where
  pub cycle : List ℕ
  pub is_cycle : IsRelaxedCycle net rows path cycle

-- it has none, and the path costs c when relaxed
pub record IsPruned (net : Net) (rows : RowsValue) (path : List Decision) (penalty best c : ℕ) : Type 0 where
  pub no_cycle : HasNoRelaxedCycle net rows path
  pub times : List ℕ
  pub least : IsRelaxedLeast net rows path times
  pub cost : c ≡ relaxed_cost_of net rows path times penalty
  pub no_less : best ≤ c

-- it has none, its least times violate nothing and cost less than the best, and these are what differs in the completion
pub record IsSolved (net : Net) (rows : RowsValue) (path : List Decision) (penalty best c : ℕ) (choices : List Decision) : Type 0 where
  pub no_cycle : HasNoRelaxedCycle net rows path
  pub times : List ℕ
  pub least : IsRelaxedLeast net rows path times
  pub cost : c ≡ relaxed_cost_of net rows path times penalty
  pub less : c < best
  pub nothing : first_violated net rows path times ≡ None
  pub completes : choices ≡ differences_from net rows (completion_of net rows path times)

-- it has none, its least times cost less than the best, and this is the first choice that they violate
pub record IsBranch (net : Net) (rows : RowsValue) (path : List Decision) (penalty best c : ℕ) (choice : Choice) : Type 0 where
  pub no_cycle : HasNoRelaxedCycle net rows path
  pub times : List ℕ
  pub least : IsRelaxedLeast net rows path times
  pub cost : c ≡ relaxed_cost_of net rows path times penalty
  pub less : c < best
  pub first : first_violated net rows path times ≡ Some choice

-- the outcome of a path, of which exactly one holds
abbrev pub IsOutcome : Net → RowsValue → List Decision → ℕ → ℕ → Outcome → Type 0
IsOutcome net rows path penalty best Cycle = HasRelaxedCycle net rows path
IsOutcome net rows path penalty best (Pruned c) = IsPruned net rows path penalty best c
IsOutcome net rows path penalty best (Solved c choices) = IsSolved net rows path penalty best c choices
IsOutcome net rows path penalty best (Branch c choice) = IsBranch net rows path penalty best c choice

-- what the relaxed problem holds has no cycle, its least times cost less than the best, and they violate this choice
pub record IsBranchOn (net : Net) (rows : RowsValue) (path : List Decision) (penalty best c : ℕ) (choice : Choice) : Type 0 where
  pub no_cycle : HasNoRelaxedCycle net rows path
  pub times : List ℕ
  pub least : IsRelaxedLeast net rows path times
  pub cost : c ≡ relaxed_cost_of net rows path times penalty
  pub less : c < best
  pub violated : IsViolated net rows path times choice

-- the outcome of a path, where it may branch on any violated choice
abbrev pub IsFoundThere : Net → RowsValue → List Decision → ℕ → ℕ → Outcome → Type 0
IsFoundThere net rows path penalty best Cycle = HasRelaxedCycle net rows path
IsFoundThere net rows path penalty best (Pruned c) = IsPruned net rows path penalty best c
IsFoundThere net rows path penalty best (Solved c choices) = IsSolved net rows path penalty best c choices
IsFoundThere net rows path penalty best (Branch c choice) = IsBranchOn net rows path penalty best c choice

-- of the choices that these times violate: the one that is hinted at where it is among them, and else the first
abbrev pub IsChosenBy : Net → RowsValue → List Decision → List ℕ → Option Choice → Choice → Type 0
IsChosenBy net rows path times hint choice =
    ((hint ≡ Some choice) × IsViolated net rows path times choice)
    ⊎ (((other : Choice) → hint ≡ Some other → IsViolated net rows path times other → ⊥)
    × (first_violated net rows path times ≡ Some choice))

-- the choice goes by the hint, of those that the least times of the path violate
pub record IsHinted (net : Net) (rows : RowsValue) (path : List Decision) (hint : Option Choice) (choice : Choice) : Type 0 where
  pub times : List ℕ
  pub least : IsRelaxedLeast net rows path times
  pub chosen : IsChosenBy net rows path times hint choice

-- where the outcome is to branch, the choice goes by the hint
abbrev pub IsByHint : Net → RowsValue → List Decision → Option Choice → Outcome → Type 0
IsByHint net rows path hint Cycle = Unit {0}
IsByHint net rows path hint (Pruned c) = Unit {0}
IsByHint net rows path hint (Solved c choices) = Unit {0}
IsByHint net rows path hint (Branch c choice) = IsHinted net rows path hint choice
