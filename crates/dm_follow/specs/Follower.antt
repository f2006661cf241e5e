-- What contracts see of a follower, and what it promises of the bytes that it has taken.
use Rattle.std.specs.Prelude.{ℕ, ◌≡◌, ◌+◌, if◌then◌else◌, nat_lt, List, [], ◌++◌, length, Result, Ok, Err, OnOk}
use Rattle.dm_network.specs.Net.{Net}
use Rattle.dm_rows.specs.Rows.{RowsValue}
use Rattle.dm_table.specs.Value.{TableValue, IsTable}
use Rattle.dm_follow.specs.declared.faults.FollowFault.{FollowFault}
use Rattle.dm_follow.specs.declared.faults.FollowKind.{FollowKind}
use Rattle.dm_follow.specs.declared.faults.FollowKind.TheVariants.{Form, Entry as BadEntry, OutOfMemory}
use Rattle.dm_follow.specs.declared.faults.Tail.{Tail}
use Rattle.dm_follow.specs.declared.faults.Tail.TheVariants as tail
use Rattle.dm_follow.specs.declared.stages.Stage.{Stage}
use Rattle.dm_follow.specs.declared.stages.Stage.TheVariants.{Version, Penalty, Feeds, Entries, Journal, Failed}
use Rattle.dm_follow.specs.Journals.{IsFrontFault, HasNoFrontFault}
use Rattle.dm_follow.specs.Followed.{IsFollowed, IsTail}
use Rattle.dm_follow.specs.Inside.Reading.{IsReadTo, SameDay}

-- the table of the entries so far, how many bytes were taken, which line comes next, and the bytes of it that were taken
pub record FollowerValue : Type 0 where
  pub table : TableValue
  pub taken : ℕ
  pub stage : Stage
  pub part : List ℕ

abbrev pub tail_at : Stage → ℕ → ℕ → Tail
tail_at Version entered count = tail.Torn 1 count
tail_at Penalty entered count = tail.Torn 2 count
tail_at Feeds entered count = tail.Torn 3 count
tail_at (Entries feeds) entered count = tail.Torn 4 count
tail_at (Journal feeds entries) entered count = if nat_lt entered entries then tail.Torn (entered + 5) count else tail.Whole
tail_at (Failed line kind) entered count = tail.Failed line

-- what it has of the journal's lines
abbrev pub tail_of : FollowerValue → Tail
tail_of f = tail_at f.stage (length f.table.history) (length f.part)

-- The follower has taken these bytes: its history is the longest that they carry, its rows are those after all its entries, its
-- times are their least timetable, and its tail is theirs.
pub record Follows (f : FollowerValue) (bytes : List ℕ) : Type 0 where
  pub table : IsTable f.table
  pub history : IsFollowed f.table.network f.table.start f.table.penalty bytes f.table.history
  pub tail_is : IsTail f.table.network f.table.start f.table.penalty bytes (tail_of f)
  pub counted : f.taken ≡ length bytes
  pub read : IsReadTo f.table.network f.table.start f.table.penalty f.table.history f.stage f.part bytes

-- What is answered where these bytes were taken: the front fault exactly where they have one, and where they have none Ok or want
-- of memory, which is of no line.
abbrev pub IsAnswer : Net → RowsValue → ℕ → List ℕ → ℕ → FollowKind → Type 0
IsAnswer net start penalty bytes line Form = IsFrontFault net start penalty bytes Form line
IsAnswer net start penalty bytes line BadEntry = IsFrontFault net start penalty bytes BadEntry line
IsAnswer net start penalty bytes line OutOfMemory = (line ≡ 0) × HasNoFrontFault net start penalty bytes

abbrev pub AnswersTaken : Net → RowsValue → ℕ → List ℕ → Result (Unit {0}) FollowFault → Type 0
AnswersTaken net start penalty bytes (Ok done) = HasNoFrontFault net start penalty bytes
AnswersTaken net start penalty bytes (Err fault) = IsAnswer net start penalty bytes fault.line fault.kind

-- Bytes from the front of the piece were taken behind those before, all of them where the answer is Ok. Whatever bytes were taken
-- before, what the follower then holds and answers is what holds of all of them together: it does not matter how they were cut.
pub record TakesPiece (old new : FollowerValue) (piece : List ℕ) (result : Result (Unit {0}) FollowFault) : Type 0 where
  pub front : List ℕ
  pub rest : List ℕ
  pub split : piece ≡ front ++ rest
  pub counted : new.taken ≡ old.taken + length front
  pub whole : OnOk result (rest ≡ [])
  pub day : SameDay old.table new.table
  pub follows : (bytes : List ℕ) → Follows old bytes → Follows new (bytes ++ front)
  pub answers : (bytes : List ℕ) → Follows old bytes →
      AnswersTaken new.table.network new.table.start new.table.penalty (bytes ++ front) result

-- a line broke its rule
abbrev pub IsFailedTail : Tail → Type 0
IsFailedTail tail.Whole = ⊥
IsFailedTail (tail.Torn line count) = ⊥
IsFailedTail (tail.Failed line) = Unit {0}
