-- What holds of all texts.
use Rattle.std.specs.Prelude.{ℕ, ◌≡◌, ◌≤◌, List, ◌++◌, length, take}
use Rattle.dm_base.specs.declared.limits.TheConstants.{PENALTY}
use Rattle.dm_network.specs.Net.{Net}
use Rattle.dm_rows.specs.declared.messages.Entry.{Entry}
use Rattle.dm_rows.specs.Rows.{RowsValue}
use Rattle.dm_cert.specs.RunTexts.{Run}
use Rattle.dm_cert.specs.Runs.{IsTextOf}
use Rattle.dm_follow.specs.declared.faults.FollowKind.{FollowKind}
use Rattle.dm_follow.specs.declared.faults.Tail.{Tail}
use Rattle.dm_follow.specs.Journals.{IsFrontFault, HasNoFrontFault}
use Rattle.dm_follow.specs.Followed.{IsFollowed, IsTail}

-- Of bytes one history alone is the longest that they carry, and one front fault at most is theirs.
pub record FollowedIsOne : Type 0 where
  pub histories : (net : Net) (start : RowsValue) (penalty : ℕ) (bytes : List ℕ) (one other : List Entry) → penalty ≤ PENALTY →
      IsFollowed net start penalty bytes one → IsFollowed net start penalty bytes other → one ≡ other
  pub kinds : (net : Net) (start : RowsValue) (penalty : ℕ) (bytes : List ℕ) (kind as_kind : FollowKind) (line as_line : ℕ) →
      IsFrontFault net start penalty bytes kind line → IsFrontFault net start penalty bytes as_kind as_line → kind ≡ as_kind
  pub lines : (net : Net) (start : RowsValue) (penalty : ℕ) (bytes : List ℕ) (kind as_kind : FollowKind) (line as_line : ℕ) →
      IsFrontFault net start penalty bytes kind line → IsFrontFault net start penalty bytes as_kind as_line → line ≡ as_line

-- Of bytes one tail alone is theirs: all lines whole, one line torn with so many bytes, or one that breaks its rule.
abbrev pub TailsAreOne : Type 0
TailsAreOne =
    (net : Net) (start : RowsValue) (penalty : ℕ) (bytes : List ℕ) (one other : Tail) →
    IsTail net start penalty bytes one → IsTail net start penalty bytes other → one ≡ other

-- the history is a front of the run's, and no line breaks its rule
pub record IsFrontOf (start : RowsValue) (run : Run) (bytes : List ℕ) (history : List Entry) : Type 0 where
  pub no_fault : HasNoFrontFault run.net start run.penalty bytes
  pub front : history ≡ take (length history) run.history

-- A front of the text of a true run has no front fault, and the history that it carries is a front of the run's.
abbrev pub FrontsAreFollowed : Type 0
FrontsAreFollowed =
    (version plans : ℕ) (start : RowsValue) (run : Run) (text front rest : List ℕ) (history : List Entry) →
    IsTextOf version plans start run text → text ≡ front ++ rest → IsFollowed run.net start run.penalty front history →
    IsFrontOf start run front history
