-- What a run's text is: the promise of the whole program, for feeds that are answered in rounds.
use Rattle.std.specs.Prelude.{ℕ, ◌≡◌, List, Option, Some, Ok, length}
use Rattle.dm_input.specs.Input.{Told, Opening, OpeningAnswer}
use Rattle.dm_words.specs.Words.{RunAsked, RunOf, Asks}
use Rattle.dm_rows.specs.History.{rows_at}
use Rattle.dm_rows.specs.Rows.{RowsValue}
use Rattle.dm_cert.specs.Logs.{KeepsRounds}
use Rattle.dm_cert.specs.RunTexts.{Run}
use Rattle.dm_commands.specs.Boards.{Ended}
use Rattle.dm_cert.specs.Runs.{IsTextOf}
use Rattle.dm_commands.specs.declared.status.Status.{Status}
use Rattle.dm_commands.specs.Feeds.{AreLogsOf, status_of}
use Rattle.dm_commands.specs.Optimal.{OptimalIsLeast}

-- how a run ends that began with these rows
abbrev pub ended_by : RowsValue → Run → Ended
ended_by start run =
    record { run = run; cancelled = (rows_at run.net start run.history (length run.history)).cancelled }

-- The text is that of a true run, in version 2: of the network and the start rows that the words and the bytes under their
-- names determine, at the penalty of the words, with a log for each feed, which may have as many plans as the words say. The
-- logs keep to rounds of the words' batch, the status is theirs, and the boards end as those of the run. No choices for a plan's
-- entry cost less than a plan of either kind that is printed as optimal.
pub record IsRunOf (told : Told) (is_sound : List ℕ → Type 0) (end_boards : Option Ended → Type 0) (words : List (List ℕ))
    (status : Status) (text : List ℕ) : Type 0 where
  pub asked : RunAsked
  pub is_asked : Asks words (RunOf asked)
  pub opening : Opening
  pub opens : OpeningAnswer told asked.files (Ok opening)
  pub run : Run
  pub net : run.net ≡ opening.net
  pub penalty : run.penalty ≡ asked.files.penalty
  pub boards : end_boards (Some (ended_by opening.rows run))
  pub logs : AreLogsOf told is_sound asked.feeds run.logs
  pub rounds : KeepsRounds run.logs asked.batch
  pub has_status : status ≡ status_of run.logs
  pub is_text : IsTextOf 2 asked.files.plans opening.rows run text
  pub optimal : OptimalIsLeast opening.rows run
