-- What holds of all answers, logs and texts.
use Rattle.std.specs.Prelude.{ℕ, ◌≡◌, List, ◌++◌, All}
use Rattle.dm_rows.specs.declared.messages.Entry.{Entry}
use Rattle.dm_feed.specs.DueItems.{DueItem, AreItemsOf}
use Rattle.dm_feed.specs.Lines.{HasSortedChoice}
use Rattle.dm_tree.specs.Trees.{Shape, preorder, leaves_of, IsProper}
use Rattle.dm_cert.specs.declared.replies.LogItem.{LogItem}
use Rattle.dm_cert.specs.declared.replies.FeedLog.{FeedLog}
use Rattle.dm_cert.specs.Answers.{Setting}
use Rattle.dm_cert.specs.Logs.{IsTrueLog, AreTrueLogs, IsLogOf}
use Rattle.dm_cert.specs.CoreRun.{LinesRise, AnswerFirst}
use Rattle.dm_cert.specs.PlanTexts.{leaves_in}
use Rattle.dm_cert.specs.RunTexts.{IsSpelledLog}

-- a log that is true of a history is true of every longer one
abbrev pub LogsStayTrue : Type 0
LogsStayTrue =
    (s : Setting) (history more : List Entry) (place : ℕ) (items : List LogItem) → IsTrueLog s history place items →
    IsTrueLog s (history ++ more) place items

-- in the entries of a history whose logs are true and spelled, of a pair to lock or unlock the smaller id stands first
abbrev pub TrueLogsHaveSortedEntries : Type 0
TrueLogsHaveSortedEntries =
    (s : Setting) (history : List Entry) (logs : List FeedLog) → AreTrueLogs s history logs → All IsSpelledLog logs →
    All (λ entry. HasSortedChoice entry.message) history

-- the due items of a feed have rising lines
abbrev pub DueLinesRise : Type 0
DueLinesRise = (bytes : List ℕ) (items : List DueItem) → AreItemsOf bytes items → LinesRise 0 items

-- the log answers the first of the due items of the feed's bytes
pub record AnswersFirstOf (bytes : List ℕ) (log : FeedLog) : Type 0 where
  pub due : List DueItem
  pub are : AreItemsOf bytes due
  pub first : AnswerFirst due log.items

-- a log of a feed's bytes answers first due items of theirs
abbrev pub LogsAnswerFirst : Type 0
LogsAnswerFirst = (bytes : List ℕ) (log : FeedLog) → IsLogOf bytes log → AnswersFirstOf bytes log

-- the leaves that are printed of a tree are its leaves, each with its path
abbrev pub LeavesAreTheTrees : Type 0
LeavesAreTheTrees = (shape : Shape) → IsProper shape → leaves_in (preorder shape) ≡ leaves_of shape
