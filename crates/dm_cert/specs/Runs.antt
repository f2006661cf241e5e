-- When a printed run is true, and which texts are those of true runs.
use Rattle.std.specs.Prelude.{ℕ, ◌≡◌, ◌≤◌, List, length, Some, slice_get, All}
use Rattle.dm_base.specs.declared.limits.TheConstants.{FEEDS, BOARDS}
use Rattle.dm_network.specs.Net.{Net}
use Rattle.dm_rows.specs.declared.messages.Entry.{Entry}
use Rattle.dm_rows.specs.Rows.{RowsValue}
use Rattle.dm_rows.specs.Timetable.{IsLeast}
use Rattle.dm_rows.specs.Cost.{cost_of}
use Rattle.dm_rows.specs.History.{rows_at, IsLegal}
use Rattle.dm_feed.specs.Parts.{largest_id}
use Rattle.dm_cert.specs.declared.notes.Note.{Note}
use Rattle.dm_cert.specs.declared.replies.FeedLog.{FeedLog}
use Rattle.dm_cert.specs.Answers.{Setting}
use Rattle.dm_cert.specs.Logs.{AreTrueLogs}
use Rattle.dm_cert.specs.PlanTexts.{IsVersion}
use Rattle.dm_cert.specs.RunTexts.{Run, run_text, KnowsLog, IsSpelledRun, FitsRun}

-- ---- notes of boards

-- the note names a board and a stop, and an entry that there is
pub record IsTrueNote (entries : ℕ) (note : Note) : Type 0 where
  pub some_board : 1 ≤ note.board
  pub few_boards : note.board ≤ BOARDS
  pub stop : note.stop ≤ largest_id
  pub entry : note.entry ≤ entries

-- Every note is true, no board has two, and their entries never fall.
pub record AreTrueNotes (entries : ℕ) (notes : List Note) : Type 0 where
  pub few : length notes ≤ BOARDS
  pub each : All (IsTrueNote entries) notes
  pub once : (i j : ℕ) (one other : Note) → slice_get notes i ≡ Some one → slice_get notes j ≡ Some other →
      one.board ≡ other.board → i ≡ j
  pub in_order : (i j : ℕ) (one other : Note) → slice_get notes i ≡ Some one → slice_get notes j ≡ Some other → i ≤ j →
      one.entry ≤ other.entry

-- ---- runs

-- what the answers of a run go by, where a feed may have so many plans, it began with these rows and is printed in this version
abbrev pub setting_of : ℕ → ℕ → RowsValue → Run → Setting
setting_of version plans start run =
    record { net = run.net; start = start; penalty = run.penalty; plans = plans; version = version }

-- the rows after all its entries
abbrev pub rows_at_end : RowsValue → Run → RowsValue
rows_at_end start run = rows_at run.net start run.history (length run.history)

-- There are 1 to 64 feeds, of which each may have so many plans. The history is legal from the rows at the start, every log is
-- true, and the notes are. The times are least after all entries, and the cost is theirs.
pub record IsTrueRun (version plans : ℕ) (start : RowsValue) (run : Run) : Type 0 where
  pub some_feed : 1 ≤ length run.logs
  pub few_feeds : length run.logs ≤ FEEDS
  pub legal : IsLegal run.net start run.history
  pub logs : AreTrueLogs (setting_of version plans start run) run.history run.logs
  pub notes : AreTrueNotes (length run.history) run.notes
  pub least : IsLeast run.net (rows_at_end start run) run.times
  pub cost : run.cost ≡ cost_of run.net (rows_at_end start run) run.times run.penalty

-- The text is the spelling of the run in this version, which has words for all its items, and the run is true from these rows,
-- where a feed may have so many plans.
pub record IsTextOf (version plans : ℕ) (start : RowsValue) (run : Run) (text : List ℕ) : Type 0 where
  pub is_version : IsVersion version
  pub is_true : IsTrueRun version plans start run
  pub fits : FitsRun run
  pub is_spelled : IsSpelledRun run
  pub known : All (KnowsLog version) run.logs
  pub spelled : text ≡ run_text version run

-- The text is the spelling, in one of the versions, of a true run of this network from these rows at this penalty, where a feed
-- may have so many plans.
pub record IsRunText (net : Net) (start : RowsValue) (penalty plans : ℕ) (text : List ℕ) : Type 0 where
  pub version : ℕ
  pub history : List Entry
  pub logs : List FeedLog
  pub notes : List Note
  pub times : List ℕ
  pub cost : ℕ
  pub is_text :
      IsTextOf version plans start
      (record { net = net; penalty = penalty; history = history; logs = logs; notes = notes; times = times; cost = cost })
      text
