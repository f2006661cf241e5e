-- Stages of a server: its start, its rounds and its end.
use Rattle.std.specs.Prelude.{ℕ, ◌≡◌, ◌≢◌, ◌+◌, ◌<◌, ◌≤◌, ◌↔◌, Bool, List, [], length, map, codes, All, Option, Some, None, slice_get, slice_index_or, Result, IfSome, IfOk, OnOk, IsTrue, ◌⊎◌}
use Rattle.std.specs.List.{flat_map}
use mathlib.Core.List.{IsPrefix}
use Rattle.dm_base.specs.declared.limits.TheConstants.{FEEDS}
use Rattle.dm_words.specs.Serving.{ServerAsked}
use Rattle.dm_feed.specs.declared.feed.FeedStop.{FeedStop}
use Rattle.dm_feed.specs.declared.feed.FeedStop.TheVariants.{End}
use Rattle.dm_outside.specs.Faults.{HasRisen}
use Rattle.dm_cert.specs.declared.notes.Note.{Note}
use Rattle.dm_cert.specs.declared.replies.FeedLog.{FeedLog}
use Rattle.dm_cert.specs.declared.replies.LogItem.{LogItem}
use Rattle.dm_cert.specs.Answers.{Setting}
use Rattle.dm_cert.specs.Logs.{IsInOrder}
use Rattle.dm_cert.specs.RunTexts.{FitsRun, IsSpelledItem, run_text}
use Rattle.dm_desk.specs.Answered.{AreTrueOf}
use Rattle.dm_desk.specs.Desks.{DeskValue}
use Rattle.dm_store.specs.declared.store.Store.{Ghosts as StoreFacts}
use Rattle.dm_store.specs.Blocks.{block, refusal}
use Rattle.dm_store.specs.Calls.{LeavesOnly}
use Rattle.dm_store.specs.Journals.{IsFound}
use Rattle.dm_store.specs.declared.journal.Journal.{Journal}
use Rattle.dm_book.specs.Books.{Book, IsFrontBook, IsSafe, reply_text}
use Rattle.dm_table.specs.Value.{TableValue}
use Rattle.dm_table_desk.specs.Tables.{setting_of}
use Rattle.dm_tail.specs.Feeds.{IsReady}
use Rattle.dm_tail.specs.Watching.{IsWatched}
use Rattle.dm_tail.specs.declared.tail.Tail.{Tail}
use Rattle.dm_tail.specs.declared.watched.Watched.{Watched}
use Rattle.dm_watch.specs.Rounds.{IsWatching, book_in, desk_in}
use Rattle.dm_watch.specs.Settled.{HaveSettled, IsShown, all_items}
use Rattle.dm_watch.specs.declared.round.Watch.{Watch}
use Rattle.dm_watch.specs.declared.stops.RoundStop.{RoundStop}
use Rattle.dm_watch.specs.declared.stops.RoundStop.TheVariants as round
use Rattle.dm_store_text.specs.Written.{EndsAs, run_in}
use Rattle.dm_store_text.specs.Lines.{feed_line, refusal_line, reply_line, store_line, unread_line}
use Rattle.dm_store_text.specs.declared.status.Status.{Status}
use Rattle.dm_store_text.specs.declared.status.Status.TheVariants.{Ok as Well, Refused, ReadFault, WriteFault, NoMemory}
use Rattle.dm_catch_up.specs.Feeds.{DiffersAt}
use Rattle.dm_restore.specs.Restoring.{IsRestored, RefusesBook}
use Rattle.dm_restore.specs.declared.heads.Head.{Head}
use Rattle.dm_restore.specs.declared.stops.RestoreStop.TheVariants as why
use Rattle.dm_serve.specs.Ends.{HasUnsynced, IsFullOf}
use Rattle.dm_serve.specs.Inside.Replies.{IsKeptIn, IsStarting, Looks}
use Rattle.dm_serve.specs.Lives.{IsLeft, IsTakenUp, LivesOn}
use Rattle.dm_serve.specs.declared.ending.DayEnd.{DayEnd}
use Rattle.dm_serve.specs.declared.opening.Unopened.{Unopened}
use Rattle.dm_serve.specs.declared.opening.Unopened.TheVariants as unopened
use Rattle.dm_serve.specs.declared.starting.StartStop.{StartStop}
use Rattle.dm_serve.specs.declared.starting.StartStop.TheVariants as stop

-- ---- the start

-- The book that was read back is the one that was found. It stands in the blocks, at whose end the journal is at rest; a crash since
-- the start left it, and what is shown is a front of its logs.
pub record HasBegun {S : Type 0} (facts : StoreFacts S)
    (s : Setting) (book first : Book) (start : S) (now : Journal S) : Type 0 where
  pub is : book ≡ first
  pub contents : List (List ℕ)
  pub kept : IsKeptIn s contents first
  pub gate : now.end ≡ length (flat_map block contents)
  pub starting : IsStarting facts s contents first start now.store

-- whatever true book is found, this is it, and the journal is new exactly where it has no blocks
abbrev pub FindsBook : {S : Type 0} → StoreFacts S → Setting → ℕ → Book → Bool → S → Type 0
FindsBook facts s feeds book is_new store =
    (contents : List (List ℕ)) (first : Book) → IsTakenUp facts s feeds store contents first →
    (book ≡ first) × (IsTrue is_new ↔ (contents ≡ []))

-- nothing is refused of the blocks that are found, or of the end behind them
abbrev pub IsWholeEnd : {S : Type 0} → StoreFacts S → S → Type 0
IsWholeEnd facts store = (contents : List (List ℕ)) (found : IsFound facts.tells facts.seen facts.may_leave contents store) →
    refusal contents found.stands.end ≡ None

-- What a store holds was read back, as this book; the store was only looked at since a start.
pub record IsReadBack {S : Type 0} (facts : StoreFacts S)
    (s : Setting) (feeds : ℕ) (book : Book) (is_new : Bool) (start now : S) : Type 0 where
  pub looks : Looks facts start now
  pub finds : FindsBook facts s feeds book is_new start
  pub whole : IsWholeEnd facts start

-- the reply file at this place is no front of its log in the book that is restored from the blocks
pub record HoldsMore {S : Type 0} (facts : StoreFacts S) (s : Setting) (feeds : ℕ) (store : S) (place : ℕ) : Type 0 where
  pub within : place < feeds
  pub cause : (contents : List (List ℕ)) (book : Book) (items : List LogItem) → IsFound facts.tells facts.seen facts.may_leave contents store →
      IsRestored s feeds contents book
      → slice_get book.logs place ≡ Some items → place < length (facts.shown store) →
      IsPrefix (slice_index_or (facts.shown store) place []) (reply_text items) → ⊥

-- the cause of a stop as what a store holds is read back
abbrev pub StopsReadingBack : {S : Type 0} → StoreFacts S → Setting → ℕ → S → S → StartStop → Type 0
StopsReadingBack facts s feeds old new stop.OutOfMemory = Unit {0}
StopsReadingBack facts s feeds old new stop.Unread = HasRisen (facts.faults old) (facts.faults new)
StopsReadingBack facts s feeds old new (stop.Refused reason) =
    (reason ≡ why.OutOfMemory → ⊥) × ((contents : List (List ℕ)) (found : IsFound facts.tells facts.seen facts.may_leave contents old) →
    RefusesBook s feeds (facts.seen old) contents found.stands.end reason)
StopsReadingBack facts s feeds old new (stop.Reply place) =
    HoldsMore facts s feeds old place
StopsReadingBack facts s feeds old new stopped = ⊥

-- Whatever true book was found, a crash while its journal is put right leaves that, and at Ok it was taken up.
abbrev pub PutsRight : {S E : Type 0} → StoreFacts S → Head → Bool → Journal S → Journal S → Result (Unit {0}) E → Type 0
PutsRight facts head is_new old new result =
    (s : Setting) (contents : List (List ℕ)) (first : Book) → s.penalty ≡ head.penalty → s.plans ≡ head.plans →
    (IsTrue is_new ↔ (contents ≡ []))
    → IsTakenUp facts s head.feeds old.store contents first
    → LeavesOnly facts.moment facts.left_since old.store new.store (IsSafe s first first)
    × OnOk result (HasBegun facts s first first old.store new)

-- The cause of a stop as a journal is put right. One that could not be read is left, and one that nothing is refused of is not refused.
abbrev pub StopsPutting : {S : Type 0} → StoreFacts S → S → S → StartStop → Type 0
StopsPutting facts old new stop.OutOfMemory = Unit {0}
StopsPutting facts old new stop.Unread = HasRisen (facts.faults old) (facts.faults new)
    × ((contents : List (List ℕ)) → IsFound facts.tells facts.seen facts.may_leave contents old → IsLeft facts old new)
StopsPutting facts old new stop.Failed = HasRisen (facts.faults old) (facts.faults new)
StopsPutting facts old new (stop.Refused reason) =
    (reason ≡ why.OutOfMemory → ⊥) × ((contents : List (List ℕ)) (found : IsFound facts.tells facts.seen facts.may_leave contents old) →
    refusal contents found.stands.end ≡ None → ⊥)
StopsPutting facts old new stopped = ⊥

-- Whatever true book was found whose logs are those of the feeds, a crash while it is taken up leaves it, and at Ok it is settled.
abbrev pub TakesUp : {S T E : Type 0} → StoreFacts S → Head → Bool → List (Watched T) → Journal S → Journal S → Result (Unit {0}) E → Type 0
TakesUp facts head is_new feeds old new result =
    (s : Setting) (contents : List (List ℕ)) (first : Book) → s.penalty ≡ head.penalty → s.plans ≡ head.plans →
    (IsTrue is_new ↔ (contents ≡ []))
    → first.logs ≡ map all_items feeds → IsTakenUp facts s head.feeds old.store contents first
    → LeavesOnly facts.moment facts.left_since old.store new.store (IsSafe s first first) × facts.tells new.store
    × OnOk result (HaveSettled facts s first.logs new)

-- ---- feeds

-- a feed goes on with these items, which are all shown, over whatever desk they are true of
pub record GoesOnWith {T : Type 0} (given : T → Option (List ℕ)) (items : List LogItem) (watched : Watched T) : Type 0 where
  pub log : watched.log.items ≡ items
  pub ready : IsReady watched
  pub shown : IsShown watched
  pub over : (desk : DeskValue) (number : ℕ) → AreTrueOf desk number items → IsInOrder 0 0 items → All IsSpelledItem items →
      IsWatched given desk number watched

-- each feed does so with its log
pub record AllGoOn {T : Type 0} (given : T → Option (List ℕ)) (logs : List (List LogItem)) (feeds : List (Watched T)) : Type 0 where
  pub as_many : length feeds ≡ length logs
  pub each : (place : ℕ) (items : List LogItem) (watched : Watched T) → slice_get logs place ≡ Some items →
      slice_get feeds place ≡ Some watched → GoesOnWith given items watched

-- the first feeds go on with these logs, and the others are as they were
pub record CaughtUpTo {T : Type 0} (given : T → Option (List ℕ)) (logs : List FeedLog) (before now : List (Watched T)) : Type 0 where
  pub as_many : length now ≡ length before
  pub each : (place : ℕ) (log : FeedLog) (watched : Watched T) → slice_get logs place ≡ Some log →
      slice_get now place ≡ Some watched → GoesOnWith given log.items watched
  pub others : (place : ℕ) → length logs ≤ place → slice_get now place ≡ slice_get before place

-- the cause of a stop at a feed
pub record IsChangedAt {T : Type 0} (given : T → Option (List ℕ)) (logs : List (List LogItem)) (feeds : List (Watched T))
    (number line : ℕ) : Type 0 where
  pub place : ℕ
  pub items : List LogItem
  pub watched : Watched T
  pub number_is : number ≡ place + 1
  pub of : slice_get logs place ≡ Some items
  pub stands : slice_get feeds place ≡ Some watched
  pub changed : IfSome (given watched.tail.feed) (λ bytes. DiffersAt bytes items line)

pub record HasFailedAt {T : Type 0} (faults : T → ℕ) (before now : List (Watched T)) (place : ℕ) : Type 0 where
  pub one : Watched T
  pub other : Watched T
  pub was : slice_get before place ≡ Some one
  pub is : slice_get now place ≡ Some other
  pub risen : HasRisen (faults one.tail.feed) (faults other.tail.feed)

abbrev pub StopsCatchingUp : {T : Type 0} → (T → Option (List ℕ)) → (T → ℕ) → List (List LogItem) → List (Watched T) →
    List (Watched T) → StartStop → Type 0
StopsCatchingUp given faults logs before now stop.OutOfMemory = Unit {0}
StopsCatchingUp given faults logs before now (stop.Fault place) = HasFailedAt faults before now place
StopsCatchingUp given faults logs before now (stop.Changed number line) = IsChangedAt given logs now number line
StopsCatchingUp given faults logs before now stopped = ⊥

-- ---- rounds

-- a watch between two rounds
pub record IsGoing {T : Type 0} (given : T → Option (List ℕ)) (s : Setting) (feeds : ℕ) (watch : Watch T) : Type 0 where
  pub setting : setting_of watch.desk.plans watch.desk.table ≡ s
  pub as_many : length watch.feeds.items ≡ feeds
  pub watching : IsWatching given (desk_in watch) watch.feeds.items
  pub shown : All IsShown watch.feeds.items

-- Since the start a crash left a book that goes on from the first. The journal has that of the watch, and it is shown.
pub record HasGone {S T : Type 0} (facts : StoreFacts S)
    (s : Setting) (first : Book) (watch : Watch T) (start : S) (now : Journal S) : Type 0 where
  pub leaves : LeavesOnly facts.moment facts.left_since start now.store (IsSafe s first (book_in watch))
  pub grows : IsFrontBook first (book_in watch)
  pub settled : HaveSettled facts s (book_in watch).logs now

-- Where a day has gone on since a start, it goes on as rounds are gone.
abbrev pub GoesOver : {S T E : Type 0} → StoreFacts S → Setting → Book → List (Option (List ℕ)) → S → Watch T → Journal S → Journal S → Result (Watch T) E → Type 0
GoesOver facts s first sources start watch old new result =
    setting_of watch.desk.plans watch.desk.table ≡ s → HasGone facts s first watch start old
    → LivesOn facts s first sources start new.store
    × IfOk result (λ r. HasGone facts s first r start new)

-- the cause of a stop as rounds are gone
abbrev pub StopsGoing : {S T : Type 0} → StoreFacts S → (T → Option (List ℕ)) → (T → ℕ) → Watch T → Journal S → Journal S → RoundStop → Type 0
StopsGoing facts given faults watch old new round.OutOfMemory = Unit {0}
StopsGoing facts given faults watch old new (round.Unsynced number) = HasUnsynced faults
StopsGoing facts given faults watch old new round.Failed =
    HasRisen (facts.faults old.store) (facts.faults new.store)
StopsGoing {S} facts given faults watch old new round.Full =
    (s : Setting) (first : Book) (start : S) → setting_of watch.desk.plans watch.desk.table ≡ s →
    HasGone facts s first watch start old → IsFullOf given s first

-- ---- the end

-- the stop of a log: a feed that may go on ends as one that was read to its end
abbrev pub stop_in : Option FeedStop → FeedStop
stop_in None = End
stop_in (Some stopped) = stopped

abbrev pub log_in : {T : Type 0} → Watched T → FeedLog
log_in watched = record { items = watched.log.items; stop = stop_in watched.tail.stop }

abbrev pub tail_in : {T : Type 0} → Watched T → Tail T
tail_in watched = watched.tail

-- a stop for a refusal has its reason, and one for a reply file its place among few
abbrev pub HasReason : StartStop → Type 0
HasReason (stop.Refused reason) = reason ≢ why.OutOfMemory
HasReason (stop.Reply place) = place < FEEDS
HasReason stopped = Unit {0}

-- where there is a feed of this name, the line that it was not read was written
abbrev pub EndsUnread : {K : Type 0} → (K → Option (List ℕ)) → (K → ℕ) → Option (List ℕ) → K → K → Status → Type 0
EndsUnread taken faults None before now result = result ≢ Well
EndsUnread taken faults (Some name) before now result = EndsAs taken faults before now (unread_line name) ReadFault result

-- how a server ends to which not all feeds were opened
abbrev pub EndsUnopened : {K : Type 0} → (K → Option (List ℕ)) → (K → ℕ) → List (List ℕ) → Unopened → K → K → Status → Type 0
EndsUnopened taken faults names unopened.OutOfMemory before now result = (now ≡ before) × (result ≡ NoMemory)
EndsUnopened taken faults names (unopened.Feed place) before now result = EndsUnread taken faults (slice_get names place) before now result

-- how a server ends that does not begin
abbrev pub EndsStart : {K : Type 0} → (K → Option (List ℕ)) → (K → ℕ) → List ℕ → List (List ℕ) → StartStop → K → K → Status → Type 0
EndsStart taken faults store names stop.OutOfMemory before now result = (now ≡ before) × (result ≡ NoMemory)
EndsStart taken faults store names stop.Unread before now result = EndsAs taken faults before now (unread_line store) ReadFault result
EndsStart taken faults store names (stop.Refused reason) before now result =
    EndsAs taken faults before now (refusal_line reason) Refused result
EndsStart taken faults store names (stop.Reply place) before now result =
    EndsAs taken faults before now (reply_line (place + 1)) Refused result
EndsStart taken faults store names (stop.Fault place) before now result = EndsUnread taken faults (slice_get names place) before now result
EndsStart taken faults store names (stop.Changed number line) before now result =
    EndsAs taken faults before now (feed_line number line) Refused result
EndsStart taken faults store names stop.Failed before now result = (now ≡ before) × (result ≡ WriteFault)

-- how a server ends that a round stops
abbrev pub EndsRound : {K : Type 0} → (K → Option (List ℕ)) → (K → ℕ) → RoundStop → K → K → Status → Type 0
EndsRound taken faults round.OutOfMemory before now result = (now ≡ before) × (result ≡ NoMemory)
EndsRound taken faults round.Full before now result = EndsAs taken faults before now (store_line (codes "full")) Refused result
EndsRound taken faults stopped before now result = (now ≡ before) × (result ≡ WriteFault)

-- ---- the whole

-- since the start, whatever true book was found, the day has gone on
abbrev pub HasGoneSince : {S T : Type 0} → StoreFacts S → Setting → ℕ → Watch T → S → Journal S → Type 0
HasGoneSince facts s feeds watch start now =
    (contents : List (List ℕ)) (first : Book) → IsTakenUp facts s feeds start contents first →
    HasGone facts s first watch start now

-- a run was printed, or there was no memory for that
abbrev pub EndsDay : {K T : Type 0} → (K → Option (List ℕ)) → (K → ℕ) → TableValue → List (Watched T) → List Note → K → K →
    DayEnd T → Type 0
EndsDay taken faults table feeds notes before now end =
    ((now ≡ before) × (end.status ≡ NoMemory))
    ⊎ ((end.tails.items ≡ map tail_in feeds) × FitsRun (run_in table (map log_in feeds) notes)
    × EndsAs taken faults before now (run_text 2 (run_in table (map log_in feeds) notes)) Well end.status)

-- it was said why feeds do not go on, or there was no memory for that
abbrev pub EndsAtFeeds : {K T : Type 0} → (K → Option (List ℕ)) → (K → ℕ) → ServerAsked → List (Watched T) → StartStop → K → K →
    DayEnd T → Type 0
EndsAtFeeds taken faults asked feeds stopped before now end =
    ((now ≡ before) × (end.status ≡ NoMemory))
    ⊎ ((end.tails.items ≡ map tail_in feeds) × EndsStart taken faults asked.store asked.run.feeds stopped before now end.status)
