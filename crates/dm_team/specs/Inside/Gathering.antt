-- What the workers hand in, put together.
use Rattle.std.specs.Prelude.{ℕ, ◌≡◌, ◌+◌, List, [], length, map, sum_by, All}
use Rattle.atomic_table.specs.Seated.{TableId}
use Rattle.dm_rows.specs.declared.messages.Decision.{Decision}
use Rattle.dm_tree.specs.declared.forms.Leaf.{Leaf}
use Rattle.dm_bound.specs.Words.{HandValue}
use Rattle.dm_deques.specs.Deques.{TallyValue}
use Rattle.dm_deques.specs.Sharing.{deque_of, new_tally}
use Rattle.dm_team.specs.Nodes.{GuidedTask}
use Rattle.dm_team.specs.Accounts.{Path, Weight, Branching, IsBranching, below_by, leaves_by, branched_by, owners_put, owners_taken}
use Rattle.dm_team.specs.Inside.Working.{tallies_taken, AreFindings}

-- what the workers' tallies have taken
abbrev pub all_taken : Weight → List (List (TallyValue Path)) → ℕ
all_taken h tallies = sum_by (tallies_taken h) tallies

abbrev pub HasTakenNothing : TallyValue Path → Type 0
HasTakenNothing o = o.account.taken ≡ []

-- an owner has lent so many tallies; and it has done no more than that, but for putting paths
abbrev pub lent_of : TallyValue Path → ℕ
lent_of o = o.account.lent

abbrev pub HasLent : ℕ → TallyValue Path → Type 0
HasLent n o = lent_of o ≡ n

pub record HasLentOnly (n : ℕ) (o : TallyValue Path) : Type 0 where
  pub taken : HasTakenNothing o
  pub lent : HasLent n o

-- Each owner has lent every worker a tally: the owners are those of before with so many tallies out, and each of as many purses has a new
-- tally of each deque.
pub record AreEquipped (before owners : List (TallyValue Path)) (n : ℕ) (purses : List (List (TallyValue Path))) : Type 0 where
  pub deques : map deque_of owners ≡ map deque_of before
  pub put : (h : Weight) → owners_put h owners ≡ owners_put h before
  pub new : All (HasLentOnly n) owners
  pub each : All (λ ts. ts ≡ map new_tally (map deque_of owners)) purses
  pub many : length purses ≡ n

-- What some workers hand in: each path that was taken was handed in with a leaf, or given up, or branched, and what was put is
-- what was given and the two paths below each that branched.
pub record AreGathered (task : GuidedTask) (own : ℕ) (word : TableId) (start rooms : ℕ) (given taken_by_tallies : Weight → ℕ)
    (owners : List (TallyValue Path)) (hand : HandValue) (leaves : List Leaf) (given_up : List Path) (choices : List Decision) (cost : ℕ) : Type 0 where
  pub branched : List Branching
  pub branchings : All (IsBranching task) branched
  pub taken : (h : Weight) → owners_taken h owners + taken_by_tallies h ≡ leaves_by h leaves + sum_by h given_up + branched_by h branched
  pub put : (h : Weight) → owners_put h owners ≡ given h + sum_by (below_by h) branched
  pub found : AreFindings task own word start rooms hand leaves choices cost

-- an owner has taken some paths that were left, which are given up
pub record HasLeft (old new : TallyValue Path) (before after : List Path) : Type 0 where
  pub put : new.account.put ≡ old.account.put
  pub taken : (h : Weight) → sum_by h new.account.taken + sum_by h before ≡ sum_by h old.account.taken + sum_by h after
