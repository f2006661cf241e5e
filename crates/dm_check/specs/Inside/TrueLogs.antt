-- What a function that judges a part of logs in memory answers.
use Rattle.std.specs.Prelude.{ℕ, ◌≡◌, Bool, true, false, List, ◌++◌, length}
use Rattle.dm_rows.specs.declared.messages.Entry.{Entry}
use Rattle.dm_cert.specs.Answers.{Setting}
use Rattle.dm_cert.specs.Logs.{IsTrueLog}
use Rattle.dm_cert.specs.declared.replies.LogItem.{LogItem}
use Rattle.dm_check_answers.specs.declared.past.Past.{Past}
use Rattle.dm_check.specs.FalseRecords.{IsNextItem}
use Rattle.dm_check.specs.Judged.{AreFlagged, KeepsItem}

-- the item is the next one, and what is kept of the items goes on; or it is not
abbrev pub IsNextOn : Setting → List Entry → ℕ → List LogItem → LogItem → Past → List Bool → List Bool → Bool → Type 0
IsNextOn s history feed before answered past flags named true =
    IsNextItem s history feed before answered × KeepsItem before past flags named answered
IsNextOn s history feed before answered past flags named false = IsNextItem s history feed before answered → ⊥

-- the log at this place is true, and the entries that it names are flagged besides
pub record FlagsLog (s : Setting) (history : List Entry) (place : ℕ) (items : List LogItem) (flags named : List Bool) : Type 0 where
  pub is_true : IsTrueLog s history place items
  pub size : length named ≡ length flags
  pub flagged : (others : List LogItem) → AreFlagged others flags → AreFlagged (others ++ items) named

-- it is so, or the log is not true
abbrev pub LogIsOn : Setting → List Entry → ℕ → List LogItem → List Bool → List Bool → Bool → Type 0
LogIsOn s history place items flags named true = FlagsLog s history place items flags named
LogIsOn s history place items flags named false = IsTrueLog s history place items → ⊥
