-- When the journal and the logs of a run are true, when a log is that of a feed's bytes, and when logs keep to rounds.
use Rattle.std.specs.Prelude.{ℕ, ◌≡◌, ◌<◌, ◌≤◌, ◌+◌, ◌==◌, ◌/◌, Bool, false, List, [], ◌∷◌, ◌++◌, length, map, Option, Some, None, slice_get, count_by}
use Rattle.std.specs.List.{flat_map}
use Rattle.dm_rows.specs.declared.messages.Entry.{Entry}
use Rattle.dm_feed.specs.declared.grammar.Heard.TheVariants.{Line as Spoken, Malformed as Unheard}
use Rattle.dm_feed.specs.DueItems.{DueItem, item, EndsWith}
use Rattle.dm_cert.specs.declared.replies.Reply.{Reply}
use Rattle.dm_cert.specs.declared.replies.Reply.TheVariants.{Ok, Refused, Time, Cost, Read, Planned, Solved, Old, NoPlan, Plans, Range}
use Rattle.dm_cert.specs.declared.replies.LogItem.{LogItem}
use Rattle.dm_cert.specs.declared.replies.LogItem.TheVariants.{Malformed, Answered}
use Rattle.dm_cert.specs.declared.replies.FeedLog.{FeedLog}
use Rattle.dm_cert.specs.Answers.{Setting, IsTrueAnswer}

-- ---- entry numbers

-- What an item tells of the history: nothing, that it was answered at so many entries, or that it became the entry of this
-- number.
pub data Kind : Type 0 where
  free : Kind
  told : ℕ → Kind
  entered : ℕ → Kind

abbrev pub kind_of_reply : Reply → Kind
kind_of_reply (Ok n) = entered n
kind_of_reply (Refused at) = told at.entry
kind_of_reply (Time n time) = told n
kind_of_reply (Cost n cost) = told n
kind_of_reply (Read n) = told n
kind_of_reply (Planned plan) = told plan.entry
kind_of_reply (Solved plan) = told plan.entry
kind_of_reply (Old n) = told n
kind_of_reply NoPlan = free
kind_of_reply Plans = free
kind_of_reply (Range v) = free

abbrev pub kind_of : LogItem → Kind
kind_of (Malformed line) = free
kind_of (Answered line said reply) = kind_of_reply reply

abbrev pub line_of : LogItem → ℕ
line_of (Malformed line) = line
line_of (Answered line said reply) = line

-- the entry number that is in an item
abbrev pub number_in : Kind → Option ℕ
number_in free = None
number_in (told n) = Some n
number_in (entered n) = Some n

-- the last entry number, where this was the last before the item
abbrev pub number_after : ℕ → Kind → ℕ
number_after last free = last
number_after last (told n) = n
number_after last (entered n) = n

-- ---- true logs

-- each item is true, where these are the feed's items before them
abbrev pub AreTrueAnswers : Setting → List Entry → ℕ → List LogItem → List LogItem → Type 0
AreTrueAnswers s history feed before [] = Unit {0}
AreTrueAnswers s history feed before (answered ∷ items) =
    IsTrueAnswer s history feed before answered × AreTrueAnswers s history feed (before ++ answered ∷ []) items

-- an entry number is not below the last one, and that of an accepted message is above it
abbrev pub Follows : ℕ → Kind → Type 0
Follows last free = Unit {0}
Follows last (told n) = last ≤ n
Follows last (entered n) = last < n

-- After the line and the entry number that were last, the lines of a log rise, its entry numbers never fall, and each
-- accepted message has a number above the last.
abbrev pub IsInOrder : ℕ → ℕ → List LogItem → Type 0
IsInOrder line last [] = Unit {0}
IsInOrder line last (answered ∷ items) =
    (line < line_of answered)
    × Follows last (kind_of answered)
    × IsInOrder (line_of answered) (number_after last (kind_of answered)) items

abbrev pub is_entered : ℕ → Kind → Bool
is_entered n free = false
is_entered n (told m) = false
is_entered n (entered m) = m == n

-- the item names this entry as accepted
abbrev pub names : ℕ → LogItem → Bool
names n answered = is_entered n (kind_of answered)

abbrev pub all_items : List FeedLog → List LogItem
all_items logs = flat_map (λ log. log.items) logs

-- the log of the feed at this place, which is number place + 1, has only true answers, in order
pub record IsTrueLog (s : Setting) (history : List Entry) (place : ℕ) (items : List LogItem) : Type 0 where
  pub answers : AreTrueAnswers s history (place + 1) [] items
  pub in_order : IsInOrder 0 0 items

-- Every log is true, and every entry is named as accepted by exactly one item.
pub record AreTrueLogs (s : Setting) (history : List Entry) (logs : List FeedLog) : Type 0 where
  pub each : (place : ℕ) (log : FeedLog) → slice_get logs place ≡ Some log → IsTrueLog s history place log.items
  pub once : (n : ℕ) → 0 < n → n ≤ length history → count_by (names n) (all_items logs) ≡ 1

-- ---- the log of a feed's bytes

-- the line that an item answers, with its number
abbrev pub due_of : LogItem → DueItem
due_of (Malformed line) = item line Unheard
due_of (Answered line said reply) = item line (Spoken said)

-- The log answers the due items of the feed's bytes in order. Where the feed was read to its end or is too long, it answers
-- all of them; after a failed read the first ones.
pub record IsLogOf (bytes : List ℕ) (log : FeedLog) : Type 0 where
  pub due : List DueItem
  pub ends : EndsWith bytes due log.stop
  pub answered : map due_of log.items ≡ due

-- ---- rounds

-- the item at this place of this log, both from 0, has this entry number
pub record HasNumberAt (logs : List FeedLog) (place at n : ℕ) : Type 0 where
  pub log : FeedLog
  pub stands : slice_get logs place ≡ Some log
  pub answered : LogItem
  pub is_item : slice_get log.items at ≡ Some answered
  pub number : number_in (kind_of answered) ≡ Some n

-- Each round answers so many items of each log. No entry number of an earlier round is above one of a later round, in the
-- same log or in another.
abbrev pub KeepsRounds : List FeedLog → ℕ → Type 0
KeepsRounds logs batch =
    (place other at later m n : ℕ) → HasNumberAt logs place at m → HasNumberAt logs other later n →
    at / batch < later / batch → m ≤ n
