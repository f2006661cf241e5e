-- What became of each path that was put on a deque.
use Rattle.std.specs.Prelude.{ℕ, ◌≡◌, ◌+◌, List, [], ◌∷◌, ◌++◌, sum_by, All}
use Rattle.dm_rows.specs.declared.messages.Choice.{Choice}
use Rattle.dm_rows.specs.declared.messages.Decision.{Decision}
use Rattle.dm_rows.specs.Sides.{first_decision, second_decision, IsOrdered}
use Rattle.dm_tree.specs.declared.forms.Leaf.{Leaf}
use Rattle.dm_deques.specs.Deques.{TallyValue}
use Rattle.dm_team.specs.Nodes.{GuidedTask, IsChosen}

abbrev pub Path : Type 0
Path = List Decision

-- what each path weighs
abbrev pub Weight : Type 0
Weight = Path → ℕ

-- a path that became two, and by which choice
pub record Branching : Type 0 where
  pub path : Path
  pub choice : Choice

-- the choice is the one that is chosen there; a pair is of two different events
pub record IsBranching (task : GuidedTask) (b : Branching) : Type 0 where
  pub chosen : IsChosen task b.path b.choice
  pub ordered : IsOrdered b.choice

-- what they weigh: the two paths below one that branched, and the paths of leaves and of all that branched
abbrev pub below_by : Weight → Branching → ℕ
below_by h b = h (b.path ++ first_decision b.choice ∷ []) + h (b.path ++ second_decision b.choice ∷ [])

abbrev pub leaves_by : Weight → List Leaf → ℕ
leaves_by h leaves = sum_by (λ l. h l.path) leaves

abbrev pub branched_by : Weight → List Branching → ℕ
branched_by h branched = sum_by (λ b. h b.path) branched

-- what owners have put on their deques, and taken off them
abbrev pub owners_put : Weight → List (TallyValue Path) → ℕ
owners_put h owners = sum_by (λ o. sum_by h o.account.put) owners

abbrev pub owners_taken : Weight → List (TallyValue Path) → ℕ
owners_taken h owners = sum_by (λ o. sum_by h o.account.taken) owners

-- Each path was handed in with a leaf, or given up, or it branched. However paths are weighed, that is what was taken off the
-- deques. What was put on them is the root, once, and the two paths below each that branched.
pub record IsAccounted (task : GuidedTask) (owners : List (TallyValue Path)) (leaves : List Leaf) (given_up : List Path) : Type 0 where
  pub branched : List Branching
  pub branchings : All (IsBranching task) branched
  pub taken : (h : Weight) → owners_taken h owners ≡ leaves_by h leaves + sum_by h given_up + branched_by h branched
  pub put : (h : Weight) → owners_put h owners ≡ h [] + sum_by (below_by h) branched

-- No tally of the deque is out, and however paths are weighed, what was put on it is what was taken: each path that was put was
-- taken, once, and the deque is empty.
pub record IsDrained (owner : TallyValue Path) : Type 0 where
  pub lent : owner.account.lent ≡ 0
  pub balance : (h : Weight) → sum_by h owner.account.put ≡ sum_by h owner.account.taken
