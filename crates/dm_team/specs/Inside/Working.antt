-- What a worker has done.
use Rattle.std.specs.Prelude.{ℕ, ◌≡◌, ◌+◌, List, sum_by, All}
use Rattle.atomic_table.specs.Seated.{TableId}
use Rattle.dm_rows.specs.declared.messages.Decision.{Decision}
use Rattle.dm_tree.specs.declared.forms.Leaf.{Leaf}
use Rattle.dm_bound.specs.Words.{HandValue}
use Rattle.dm_deques.specs.Deques.{TallyValue}
use Rattle.dm_team.specs.Nodes.{GuidedTask}
use Rattle.dm_team.specs.Accounts.{Path, Weight, Branching, IsBranching, below_by, leaves_by, branched_by}
use Rattle.dm_team.specs.Found.{IsHandedIn, AreKept, AreListed}

-- what tallies have taken
abbrev pub tallies_taken : Weight → List (TallyValue Path) → ℕ
tallies_taken h tallies = sum_by (λ t. sum_by h t.account.taken) tallies

-- Leaves that are known, choices that are kept, and a hand of so many seats of the word that starts so.
pub record AreFindings (task : GuidedTask) (own : ℕ) (word : TableId) (start seats : ℕ) (hand : HandValue) (leaves : List Leaf)
    (choices : List Decision) (cost : ℕ) : Type 0 where
  pub ends : All (IsHandedIn task cost hand.looked) leaves
  pub kept : AreKept task.task own choices cost
  pub listed : AreListed cost hand.lowered
  pub word_is : hand.word ≡ word
  pub start_is : hand.start ≡ start
  pub room : hand.room ≡ seats

-- Each path that was taken was handed in with a leaf, or given up, or branched, or is in hand. What was put is what was given,
-- and the two paths below each that branched.
pub record IsAtWork (task : GuidedTask) (own : ℕ) (word : TableId) (start : ℕ) (given in_hand : Weight → ℕ)
    (owner : TallyValue Path) (tallies : List (TallyValue Path)) (hand : HandValue) (leaves : List Leaf) (given_up : List Path)
    (choices : List Decision) (cost : ℕ) : Type 0 where
  pub branched : List Branching
  pub branchings : All (IsBranching task) branched
  pub taken : (h : Weight) → sum_by h owner.account.taken + tallies_taken h tallies
      ≡ leaves_by h leaves + sum_by h given_up + branched_by h branched + in_hand h
  pub put : (h : Weight) → sum_by h owner.account.put ≡ given h + sum_by (below_by h) branched
  pub found : AreFindings task own word start 1 hand leaves choices cost

abbrev pub nothing : Weight → ℕ
nothing h = 0

-- one path
abbrev pub only : Path → Weight → ℕ
only path h = h path
