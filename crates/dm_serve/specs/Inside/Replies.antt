-- Reply files at a start, from a journal that has their logs.
use Rattle.std.specs.Prelude.{ℕ, ◌≡◌, ◌<◌, Bool, true, false, List, [], ◌∷◌, ◌++◌, length, map, Result, Some, OnOk, slice_get, slice_index_or}
use mathlib.Core.List.{IsPrefix}
use Rattle.dm_outside.specs.Faults.{HasRisen}
use Rattle.dm_cert.specs.declared.replies.FeedLog.{FeedLog}
use Rattle.dm_cert.specs.declared.replies.LogItem.{LogItem}
use Rattle.dm_cert.specs.Answers.{Setting}
use Rattle.dm_store.specs.declared.store.Store.{Ghosts as StoreFacts}
use Rattle.dm_store.specs.Blocks.{at_rest}
use Rattle.dm_store.specs.Calls.{AreFronts, LeavesJournal, LeavesOnly}
use Rattle.dm_book.specs.Books.{AreRecorded, Book, IsSafe, IsTrueBook, reply_text}
use Rattle.dm_tail.specs.declared.watched.Watched.{Watched}
use Rattle.dm_watch.specs.Settled.{all_items}
use Rattle.dm_serve.specs.Lives.{IsLeft, IsTakenUp}
use Rattle.dm_serve.specs.declared.starting.StartStop.{StartStop}
use Rattle.dm_serve.specs.declared.starting.StartStop.TheVariants as stop

-- the book is a true one, and stands in the blocks
pub record IsKeptIn (s : Setting) (contents : List (List ℕ)) (book : Book) : Type 0 where
  pub recorded : AreRecorded s contents book.logs
  pub is_true : IsTrueBook s book

-- Since a start a crash left the book. The journal is at rest with these blocks, and what is shown is a front of the book's logs.
pub record IsStarting {S : Type 0} (facts : StoreFacts S)
    (s : Setting) (contents : List (List ℕ)) (book : Book) (start now : S) : Type 0 where
  pub told : facts.tells now
  pub file : facts.seen now ≡ at_rest contents
  pub durable : LeavesJournal (facts.seen now) (facts.may_leave now)
  pub fronts : AreFronts (facts.shown now) (map reply_text book.logs)
  pub leaves : LeavesOnly facts.moment facts.left_since start now (IsSafe s book book)

-- what the reply file of a feed shows of its whole log
abbrev pub log_text : {T : Type 0} → Watched T → List ℕ
log_text watched = reply_text (all_items watched)

-- The store was only looked at. What was found is still there, and a crash meanwhile left it.
abbrev pub Looks : {S : Type 0} → StoreFacts S → S → S → Type 0
Looks {S} facts old new =
    (facts.tells old → facts.tells new × IsLeft facts old new)
    × ((s : Setting) (feeds : ℕ) (contents : List (List ℕ)) (first : Book) → IsTakenUp facts s feeds old contents first
    → LeavesOnly facts.moment facts.left_since old new (IsSafe s first first) × IsTakenUp facts s feeds new contents first)

-- the reply file at this place is no front of its log
pub record ShowsMore {S : Type 0} (facts : StoreFacts S) (logs : List FeedLog) (store : S) (place : ℕ) : Type 0 where
  pub log : FeedLog
  pub stands : slice_get logs place ≡ Some log
  pub more : facts.tells store → place < length (facts.shown store) → IsPrefix (slice_index_or (facts.shown store) place []) (reply_text log.items) → ⊥

-- The reply file of one feed was put anew, or shows what it did where the call failed.
abbrev pub PutsOne : {S T E : Type 0} → StoreFacts S → Watched T → ℕ → S → S → Result (Unit {0}) E → Type 0
PutsOne {S} facts watched place old new result =
    (s : Setting) (contents : List (List ℕ)) (book : Book) (start : S) (first rest : List (List ℕ)) (text : List ℕ) → place ≡ length first
    → facts.shown old ≡ first ++ text ∷ rest → IsPrefix text (log_text watched)
    → AreFronts (first ++ log_text watched ∷ rest) (map reply_text book.logs) → IsKeptIn s contents book
    → IsStarting facts s contents book start old
    → LeavesOnly facts.moment facts.left_since start new (IsSafe s book book) × facts.tells new
    × OnOk result (IsStarting facts s contents book start new
    × (facts.shown new ≡ first ++ log_text watched ∷ rest))

-- Since a start, reply files were put anew: a crash leaves the book, and at Ok they show it whole.
abbrev pub PutsReplies : {S T E : Type 0} → StoreFacts S → List (Watched T) → S → S → Result (Unit {0}) E → Type 0
PutsReplies {S} facts feeds old new result =
    (s : Setting) (contents : List (List ℕ)) (book : Book) (start : S) → book.logs ≡ map all_items feeds → IsKeptIn s contents book
    → IsStarting facts s contents book start old
    → LeavesOnly facts.moment facts.left_since start new (IsSafe s book book) × facts.tells new
    × OnOk result (IsStarting facts s contents book start new
    × (facts.shown new ≡ map reply_text book.logs))

-- the reply file at this place shows a front of the items, or not
abbrev pub ComparesOne : {S : Type 0} → StoreFacts S → S → List LogItem → ℕ → Bool → Type 0
ComparesOne facts store items place true = facts.tells store → place < length (facts.shown store) →
    IsPrefix (slice_index_or (facts.shown store) place []) (reply_text items)
ComparesOne facts store items place false = facts.tells store → place < length (facts.shown store) →
    IsPrefix (slice_index_or (facts.shown store) place []) (reply_text items) → ⊥

-- the cause of a stop as a reply file is read
abbrev pub StopsReading : {S : Type 0} → StoreFacts S → S → S → StartStop → Type 0
StopsReading facts old new stop.OutOfMemory = Unit {0}
StopsReading facts old new stop.Unread = HasRisen (facts.faults old) (facts.faults new)
StopsReading facts old new stopped = ⊥

-- the cause of a stop as the reply file of a log is compared
abbrev pub StopsComparing : {S : Type 0} → StoreFacts S → List FeedLog → S → S → StartStop → Type 0
StopsComparing facts logs old new stop.OutOfMemory = Unit {0}
StopsComparing facts logs old new stop.Unread = HasRisen (facts.faults old) (facts.faults new)
StopsComparing facts logs old new (stop.Reply place) = ShowsMore facts logs old place
StopsComparing facts logs old new stopped = ⊥

-- the cause of a stop as reply files are put anew
abbrev pub StopsRenewing : {S : Type 0} → StoreFacts S → S → S → StartStop → Type 0
StopsRenewing facts old new stop.OutOfMemory = Unit {0}
StopsRenewing facts old new stop.Failed = HasRisen (facts.faults old) (facts.faults new)
StopsRenewing facts old new stopped = ⊥
