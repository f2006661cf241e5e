-- What holds of a watch between two rounds, and what a round does.
use Rattle.std.specs.Prelude.{ℕ, ◌≡◌, ◌+◌, Bool, List, length, map, sum_by, slice_get, vec_len, All, Option, Some, Result, IfOk, OnOk}
use Rattle.dm_cert.specs.Answers.{Setting}
use Rattle.dm_desk.specs.Desks.{DeskValue}
use Rattle.dm_desk.specs.Answered.{HasSeenLegal, times}
use Rattle.dm_store.specs.declared.store.Store.{Ghosts as StoreFacts}
use Rattle.dm_store.specs.Calls.{LeavesOnly}
use Rattle.dm_store.specs.declared.journal.Journal.{Journal}
use Rattle.dm_book.specs.Books.{Book, IsFrontBook, IsSafe}
use Rattle.dm_table_desk.specs.Tables.{desk_of}
use Rattle.dm_tail.specs.Watching.{IsWatched}
use Rattle.dm_feed.specs.Feeds.{IsUnended}
use Rattle.dm_tail.specs.Feeds.{IsReady, AnswersAll, log_names}
use Rattle.dm_tail.specs.Sources.{AnswerFronts}
use Rattle.dm_tail.specs.declared.watched.Watched.{Watched}
use Rattle.dm_watch.specs.Settled.{all_items, HaveSettled, AreAllShown}
use Rattle.dm_watch.specs.declared.round.Watch.{Watch}
use Rattle.dm_watch.specs.declared.stops.RoundStop.{RoundStop}

-- The history that the desk has seen is legal, every log answers what its feed has given, by its number from 1, and each entry that
-- the desk entered is named by just one item.
pub record IsWatching {T : Type 0} (given : T → Option (List ℕ)) (desk : DeskValue) (feeds : List (Watched T)) : Type 0 where
  pub legal : HasSeenLegal desk
  pub each : (place : ℕ) (watched : Watched T) → slice_get feeds place ≡ Some watched → IsWatched given desk (place + 1) watched
  pub named : (n : ℕ) → sum_by (log_names n) feeds ≡ times n desk.mine
  pub ready : All IsReady feeds

-- the history of a desk, and the logs of feeds
abbrev pub book_of : {T : Type 0} → DeskValue → List (Watched T) → Book
book_of desk feeds = record { history = desk.seen; logs = map all_items feeds }

-- the desk of a watch
abbrev pub desk_in : {T : Type 0} → Watch T → DeskValue
desk_in watch = desk_of watch.desk.plans watch.desk.table

-- its book
abbrev pub book_in : {T : Type 0} → Watch T → Book
book_in watch = book_of (desk_in watch) watch.feeds.items

-- The next lines of each feed were answered, in the order of the feeds, and what was answered was shown. All else of a feed is as it
-- was after that.
pub record GoesRound {T : Type 0} (given : T → Option (List ℕ)) (before now : Watch T) : Type 0 where
  pub answered : List (Watched T)
  pub answers : AnswersAll given before.batch (desk_in before) (desk_in now) before.feeds.items answered
  pub shown : AreAllShown given answered now.feeds.items
  pub as_many : length now.feeds.items ≡ length before.feeds.items
  pub batch : now.batch ≡ before.batch
  pub buffer : vec_len now.buffer ≡ vec_len before.buffer

-- no line that ends is left of what the feed has given
abbrev pub HasNoneLeft : {T : Type 0} → Watched T → Type 0
HasNoneLeft watched = IsUnended watched.tail.pending.items

-- In a round a book grew to another, whose logs answer fronts of the feeds' sources, each that of its own feed. A crash at any moment of
-- the round leaves a true book between the two. At Ok the other is that of the watch; the journal has it, and it is shown.
pub record Rounds {S T : Type 0} (facts : StoreFacts S)
    (s : Setting) (sources : List (Option (List ℕ))) (before : Book) (old new : Journal S)
    (result : Result (Watch T × Bool) RoundStop) : Type 0 where
  pub after : Book
  pub grows : IsFrontBook before after
  pub answers : AnswerFronts sources after.logs
  pub leaves : LeavesOnly facts.moment facts.left_since old.store new.store (IsSafe s before after)
  pub is_it : IfOk result (λ r. book_in r.0 ≡ after)
  pub done : OnOk result (HaveSettled facts s after.logs new)
