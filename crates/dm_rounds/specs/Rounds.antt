-- What answering feeds in rounds comes to.
use Rattle.std.specs.Prelude.{ℕ, ◌≡◌, ◌+◌, List, [], length, count_by, slice_get, Option, Some, None, IfSome}
use Rattle.dm_feed.specs.declared.feed.FeedStop.TheVariants.{Fault}
use Rattle.dm_cert.specs.declared.replies.FeedLog.{FeedLog}
use Rattle.dm_cert.specs.Logs.{IsTrueLog, KeepsRounds, IsLogOf, names, all_items}
use Rattle.dm_cert.specs.RunTexts.{IsSpelledLog}
use Rattle.dm_desk.specs.Desks.{DeskValue, GoesOn}
use Rattle.dm_desk.specs.Answered.{times}

-- The log answers the due items of the bytes that the source had left, where it told them; of a source that told that it is
-- sound no read has failed.
pub record IsLogFrom {S : Type 0} (left : S → Option (List ℕ)) (is_sound : S → Type 0) (source : S) (log : FeedLog) : Type 0 where
  pub bytes : List ℕ
  pub told : IfSome (left source) (λ rest. rest ≡ bytes)
  pub log_of : IsLogOf bytes log
  pub cause : log.stop ≡ Fault → is_sound source → ⊥

-- what could not be opened has an empty log that ends with a fault
pub record IsUnopened (log : FeedLog) : Type 0 where
  pub none : log.items ≡ []
  pub fault : log.stop ≡ Fault

abbrev pub IsLogFor : {S : Type 0} → (S → Option (List ℕ)) → (S → Type 0) → Option S → FeedLog → Type 0
IsLogFor left is_sound (Some source) log = IsLogFrom left is_sound source log
IsLogFor left is_sound None log = IsUnopened log

-- Every feed was answered to its end over the desk, in rounds of so many lines: each log is true of what the desk has seen
-- and has a spelling, each entry that was made is named by one item, and rounds are kept.
pub record AnswersFeeds {S : Type 0} (left : S → Option (List ℕ)) (is_sound : S → Type 0) (feeds : List (Option S)) (batch : ℕ)
    (before now : DeskValue) (logs : List FeedLog) : Type 0 where
  pub goes_on : GoesOn before now
  pub as_many : length logs ≡ length feeds
  pub logs_for : (place : ℕ) (feed : Option S) (log : FeedLog) → slice_get feeds place ≡ Some feed →
      slice_get logs place ≡ Some log → IsLogFor left is_sound feed log
  pub are_true : (place : ℕ) (log : FeedLog) → slice_get logs place ≡ Some log → IsTrueLog now.setting now.seen place log.items
  pub spelled : (place : ℕ) (log : FeedLog) → slice_get logs place ≡ Some log → IsSpelledLog log
  pub named : (n : ℕ) → count_by (names n) (all_items logs) + times n before.mine ≡ times n now.mine
  pub rounds : KeepsRounds logs batch
