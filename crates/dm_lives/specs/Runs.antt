-- What lives answered is what one run says.
use Rattle.std.specs.Prelude.{ℕ, ◌≡◌, ◌≤◌, List, [], length, map}
use Rattle.dm_base.specs.declared.limits.TheConstants.{FEEDS}
use Rattle.dm_rows.specs.History.{rows_at}
use Rattle.dm_rows.specs.Rows.{RowsValue}
use Rattle.dm_rows.specs.Timetable.{IsLeast}
use Rattle.dm_rows.specs.Cost.{cost_of}
use Rattle.dm_cert.specs.Answers.{Setting}
use Rattle.dm_cert.specs.RunTexts.{Run}
use Rattle.dm_cert.specs.Runs.{IsTrueRun}
use Rattle.dm_book.specs.Books.{Book, log_of}
use Rattle.dm_book.specs.Lives.{AreLives, Crashed}
use Rattle.dm_lives.specs.Laws.{empty_book}

-- the rows after all entries of a book
abbrev pub last_rows : Setting → Book → RowsValue
last_rows s book = rows_at s.net s.start book.history (length book.history)

-- the run of a book whose timetable has these times: its entries and its logs, and no note
abbrev pub run_of : Setting → Book → List ℕ → Run
run_of s book times = record {
  net = s.net;
  penalty = s.penalty;
  history = book.history;
  logs = map log_of book.logs;
  notes = [];
  times = times;
  cost = cost_of s.net (last_rows s book) times s.penalty;
}

-- The book that is found after any lives over a store in which nothing was served before is that of a true run, as it is printed of
-- feeds that are answered in one day: its history is legal, each log is true of it, exactly one item names each entry, and each answer
-- is given at its entry.
abbrev pub LivesAreARun : Type 0
LivesAreARun = (s : Setting) (feeds : ℕ) (lives : List Crashed) (book : Book) (times : List ℕ) → s.version ≡ 2 → 1 ≤ feeds → feeds ≤ FEEDS
    → AreLives s (empty_book feeds) lives book → IsLeast s.net (last_rows s book) times → IsTrueRun 2 s.plans s.start (run_of s book times)
