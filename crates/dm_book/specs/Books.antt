-- A book is a history and the logs of feeds. It stands in the blocks of a journal: a head, and then rounds. What a crash leaves is
-- safe where its journal has a true book, and what was shown is a front of that book's logs.
use Rattle.std.specs.Prelude.{ℕ, ◌≡◌, ◌⊎◌, List, [], ◌∷◌, ◌++◌, length, map, fold, All, codes}
use Rattle.std.specs.List.{flat_map}
use Rattle.std.specs.Fmt.{decimal}
use Rattle.std.proofs.Math.ListN.{replicate}
use mathlib.Core.List.{IsPrefix}
use Rattle.dm_rows.specs.declared.messages.Entry.{Entry}
use Rattle.dm_rows.specs.History.{IsLegal}
use Rattle.dm_feed.specs.declared.feed.FeedStop.TheVariants.{End}
use Rattle.dm_outside.specs.Printing.{joined}
use Rattle.dm_cert.specs.declared.replies.LogItem.{LogItem}
use Rattle.dm_cert.specs.declared.replies.FeedLog.{FeedLog}
use Rattle.dm_cert.specs.Answers.{Setting}
use Rattle.dm_cert.specs.Logs.{AreTrueLogs}
use Rattle.dm_cert.specs.PlanTexts.{line_end}
use Rattle.dm_cert.specs.RunTexts.{item_text}
use Rattle.dm_store.specs.Blocks.{Stands}
use Rattle.dm_store.specs.Calls.{AreFronts, Image}
use Rattle.dm_store.specs.Journals.{HasCrashEnd}
use Rattle.dm_tape.specs.Laws.{IsKeptPart}
use Rattle.dm_tape.specs.Rounds.{round_text}

-- the entries of a day, and what each feed was answered, in the order of the feeds
pub record Book : Type 0 where
  pub history : List Entry
  pub logs : List (List LogItem)

-- the log of a feed that goes on, as a run's text ends it
abbrev pub log_of : List LogItem → FeedLog
log_of items = record { items = items; stop = End }

-- The history is legal, every log is true and in order, and every entry is named as accepted by exactly one item.
pub record IsTrueBook (s : Setting) (book : Book) : Type 0 where
  pub legal : IsLegal s.net s.start book.history
  pub logs : AreTrueLogs s book.history (map log_of book.logs)

-- ---- a book that grows

-- the other book has as many feeds, and this book's history and logs are fronts of its own
pub record IsFrontBook (book other : Book) : Type 0 where
  pub history : IsPrefix book.history other.history
  pub logs : AreFronts book.logs other.logs

-- ---- blocks

-- the head: the penalty in seconds for each passenger, how many plans a feed may have, and the number of feeds
unfoldable pub head_text : ℕ → ℕ → ℕ → List ℕ
head_text penalty plans feeds =
    joined (codes "dm-store 1\npenalty " ∷ decimal penalty ∷ codes "\nplans " ∷ decimal plans ∷ codes "\nfeeds " ∷ decimal feeds ∷ line_end ∷ [])

-- logs, with what a round answered behind each
abbrev pub with_round : List (List LogItem) → List (List LogItem) → List (List LogItem)
with_round [] round = []
with_round (log ∷ logs) [] = log ∷ logs
with_round (log ∷ logs) (items ∷ round) = (log ++ items) ∷ with_round logs round

-- the logs of so many feeds after rounds
abbrev pub logs_after : ℕ → List (List (List LogItem)) → List (List LogItem)
logs_after feeds rounds = fold with_round (replicate feeds []) rounds

-- The blocks are a head and rounds, each for all feeds and of items that can stand in print, and the logs are what those rounds
-- answered.
pub record AreRecorded (s : Setting) (contents : List (List ℕ)) (logs : List (List LogItem)) : Type 0 where
  pub rounds : List (List (List LogItem))
  pub blocks : contents ≡ head_text s.penalty s.plans (length logs) ∷ map round_text rounds
  pub whole : All (λ round. length round ≡ length logs) rounds
  pub kept : All (All IsKeptPart) rounds
  pub logs_are : logs ≡ logs_after (length logs) rounds

-- there is no block yet, and no log has an item
pub record AreNone (contents : List (List ℕ)) (logs : List (List LogItem)) : Type 0 where
  pub none : contents ≡ []
  pub empty : All (λ items. items ≡ []) logs

-- The logs of the book are those in the blocks. Its history is the one whose entries the logs name: a true book has no other.
abbrev pub IsBookIn : Setting → List (List ℕ) → Book → Type 0
IsBookIn s contents book = AreNone contents book.logs ⊎ AreRecorded s contents book.logs

-- ---- what a crash leaves

-- the text of a feed's log in its reply file
abbrev pub reply_text : List LogItem → List ℕ
reply_text items = flat_map (item_text 2) items

-- A crash left a true book between two others, with an end that is repaired, and whatever was shown is a front of its logs.
pub record IsSafe (s : Setting) (low high : Book) (image : Image) : Type 0 where
  pub contents : List (List ℕ)
  pub stands : Stands contents image.journal
  pub crash_end : HasCrashEnd contents image.journal
  pub book : Book
  pub is_in : IsBookIn s contents book
  pub is_true : IsTrueBook s book
  pub above : IsFrontBook low book
  pub below : IsFrontBook book high
  pub shown : AreFronts image.shown (map reply_text book.logs)
