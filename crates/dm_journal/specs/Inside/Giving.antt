-- A text that is given to a follower piece by piece.
use Rattle.std.specs.Prelude.{ℕ, ◌≡◌, ◌+◌, ◌≤◌, List, [], ◌++◌, length, Option, Some, None, Result, Ok, Err}
use Rattle.std.specs.Io.KnownBytes.{Consumes, IsAtEnd}
use Rattle.dm_base.specs.declared.limits.TheConstants.{TEXT}
use Rattle.dm_outside.specs.Taking.{TakesCount}
use Rattle.dm_outside.specs.declared.faults.TakeFault.{TakeFault}
use Rattle.dm_outside.specs.declared.faults.TakeFault.TheVariants.{ReadFault as NotRead, TooLong as TooMany, OutOfMemory as Short}
use Rattle.dm_network.specs.Net.{Net}
use Rattle.dm_rows.specs.Rows.{RowsValue}
use Rattle.dm_follow.specs.declared.faults.FollowKind.{FollowKind}
use Rattle.dm_follow.specs.declared.faults.FollowKind.TheVariants as kind
use Rattle.dm_follow.specs.Follower.{FollowerValue, Follows}
use Rattle.dm_journal.specs.declared.giving.BrokenLine.{BrokenLine}
use Rattle.dm_journal.specs.declared.giving.BrokenRule.TheVariants.{Form, Entry}
use Rattle.dm_journal.specs.declared.giving.Journal.{Journal}
use Rattle.dm_journal.specs.Journals.{IsFollowerOf, IsBrokenAt, IsJournal}

-- the line that a fault is of
abbrev pub broken_of : ℕ → FollowKind → Option BrokenLine
broken_of line kind.Form = Some (record { line = line; rule = Form })
broken_of line kind.Entry = Some (record { line = line; rule = Entry })
broken_of line kind.OutOfMemory = None

-- a follower of this day that has taken nothing
pub record IsNewFollower (net : Net) (rows : RowsValue) (penalty : ℕ) (f : FollowerValue) : Type 0 where
  pub network : f.table.network ≡ net
  pub start : f.table.start ≡ rows
  pub penalty_is : f.table.penalty ≡ penalty
  pub follows : Follows f []

-- these bytes were given, and the follower took them, or a line of them broke its rule
abbrev pub IsGiven : Net → RowsValue → ℕ → FollowerValue → Option BrokenLine → List ℕ → Type 0
IsGiven net rows penalty f None bytes = IsFollowerOf net rows penalty bytes f
IsGiven net rows penalty f (Some broken) bytes = IsBrokenAt net rows penalty bytes broken

-- whatever was given before, now these bytes were given behind it
abbrev pub GivesMore : FollowerValue → Option BrokenLine → FollowerValue → Option BrokenLine → List ℕ → Type 0
GivesMore old broken new now bytes =
    (net : Net) (rows : RowsValue) (penalty : ℕ) (before : List ℕ) → IsGiven net rows penalty old broken before →
    IsGiven net rows penalty new now (before ++ bytes)

-- so many bytes came off the front of what was left, and were given; no bytes are the end
pub record FollowsPiece (left_before left_now : Option (List ℕ)) (old : FollowerValue) (broken : Option BrokenLine) (new : FollowerValue)
    (now : Option BrokenLine) (count : ℕ) : Type 0 where
  pub bytes : List ℕ
  pub exact : length bytes ≡ count
  pub consumed : Consumes left_before left_now bytes
  pub at_end : count ≡ 0 → IsAtEnd left_now
  pub gives : GivesMore old broken new now bytes

-- the source was read to its end, its bytes are short, and they were given
pub record GivesWhole (left_before left_now : Option (List ℕ)) (old new : FollowerValue) (broken : Option BrokenLine) : Type 0 where
  pub bytes : List ℕ
  pub consumed : Consumes left_before left_now bytes
  pub at_end : IsAtEnd left_now
  pub short : length bytes ≤ TEXT
  pub gives : GivesMore old None new broken bytes

abbrev pub ReadsFollowing : {S : Type 0} → (S → Option (List ℕ)) → (S → Type 0) → S → S → FollowerValue → FollowerValue →
    Result (Option BrokenLine) TakeFault → Type 0
ReadsFollowing left is_sound before now old new (Ok broken) = GivesWhole (left before) (left now) old new broken
ReadsFollowing left is_sound before now old new (Err NotRead) = is_sound before → ⊥
ReadsFollowing left is_sound before now old new (Err TooMany) = TakesCount (TEXT + 1) (left before) (left now)
ReadsFollowing left is_sound before now old new (Err Short) = Unit {0}

-- the source was read to its end, its bytes are short, and this is what their journal carries
pub record ReadsWhole (left_before left_now : Option (List ℕ)) (f : FollowerValue) (journal : Journal) : Type 0 where
  pub bytes : List ℕ
  pub consumed : Consumes left_before left_now bytes
  pub at_end : IsAtEnd left_now
  pub short : length bytes ≤ TEXT
  pub carries : (net : Net) (rows : RowsValue) (penalty : ℕ) → IsNewFollower net rows penalty f → IsJournal net rows penalty bytes journal

abbrev pub ReadsSource : {S : Type 0} → (S → Option (List ℕ)) → (S → Type 0) → S → S → FollowerValue → Result Journal TakeFault → Type 0
ReadsSource left is_sound before now f (Ok journal) = ReadsWhole (left before) (left now) f journal
ReadsSource left is_sound before now f (Err NotRead) = is_sound before → ⊥
ReadsSource left is_sound before now f (Err TooMany) = TakesCount (TEXT + 1) (left before) (left now)
ReadsSource left is_sound before now f (Err Short) = Unit {0}
