-- What the text of a server's end is: that of a true run, which goes on from what its store held, and answers its feeds.
use Rattle.std.specs.Prelude.{ℕ, ◌≡◌, List, length, map, Option, Some, slice_get}
use Rattle.dm_network.specs.Net.{Net}
use Rattle.dm_publish.specs.Value.{Published, published}
use Rattle.dm_restore.specs.Restoring.{last_rows}
use Rattle.dm_cert.specs.declared.notes.Note.{Note}
use Rattle.dm_cert.specs.declared.replies.FeedLog.{FeedLog}
use Rattle.dm_cert.specs.Answers.{Setting}
use Rattle.dm_cert.specs.RunTexts.{Run}
use Rattle.dm_cert.specs.Runs.{IsTextOf}
use Rattle.dm_store.specs.declared.store.Store.{Ghosts as StoreFacts}
use Rattle.dm_store.specs.Calls.{LeavesOnly}
use Rattle.dm_store.specs.declared.journal.Journal.{Journal}
use Rattle.dm_book.specs.Books.{Book, IsFrontBook, IsSafe}
use Rattle.dm_tail.specs.Sources.{AnswersWhole}
use Rattle.dm_tail.specs.declared.tail.Tail.{Tail}
use Rattle.dm_watch.specs.Settled.{HaveSettled}
use Rattle.dm_serve.specs.Lives.{IsTakenUp}

-- the book of a run
abbrev pub book_of_run : Run → Book
book_of_run run = record { history = run.history; logs = map (λ log. log.items) run.logs }

-- The run goes on from a book that was found, and the journal holds it: all of it is shown. Whatever a crash left at any moment since
-- the start is safe between that book and the run's.
pub record GoesOnFrom {S : Type 0} (facts : StoreFacts S) (s : Setting) (first : Book) (run : Run) (old new : Journal S) : Type 0 where
  pub grows : IsFrontBook first (book_of_run run)
  pub settled : HaveSettled facts s (map (λ log. log.items) run.logs) new
  pub leaves : LeavesOnly facts.moment facts.left_since old.store new.store (IsSafe s first (book_of_run run))

-- The text is that of a true run, in version 2, of a network and start rows, with a log for each feed. Each log answers the due
-- lines of all lines that end of what its feed has given, each once and in order. Boards that no note names are up with its times
-- and with the events that are cancelled in the end.
-- The run goes on from what was found in the store.
pub record IsDayOf {S T : Type 0} (facts : StoreFacts S) (given : T → Option (List ℕ))
    (up : Net → Published → List Note → Type 0) (s : Setting) (feeds : ℕ) (tails : List (Tail T)) (old new : Journal S)
    (text : List ℕ) : Type 0 where
  pub run : Run
  pub net : run.net ≡ s.net
  pub penalty : run.penalty ≡ s.penalty
  pub is_text : IsTextOf 2 s.plans s.start run text
  pub boards : up run.net (published run.times (last_rows s run).cancelled) run.notes
  pub as_many : length run.logs ≡ feeds
  pub as_many_tails : length tails ≡ feeds
  pub answers : (place : ℕ) (log : FeedLog) (tail : Tail T) → slice_get run.logs place ≡ Some log →
      slice_get tails place ≡ Some tail → AnswersWhole (given tail.feed) log.items
  pub goes_on : (contents : List (List ℕ)) (first : Book) → IsTakenUp facts s feeds old.store contents first
      → GoesOnFrom facts s first run old new
