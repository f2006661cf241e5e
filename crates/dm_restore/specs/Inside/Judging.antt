-- What is told of the run that is read back.
use Rattle.std.specs.Prelude.{ℕ, ◌≡◌, ◌<◌, List, [], length}
use Rattle.dm_base.specs.declared.limits.TheConstants.{TEXT}
use Rattle.dm_rows.specs.declared.messages.Entry.{Entry}
use Rattle.dm_rows.specs.Cost.{cost_of}
use Rattle.dm_rows.specs.History.{IsLegal}
use Rattle.dm_cert.specs.declared.replies.FeedLog.{FeedLog}
use Rattle.dm_cert.specs.Logs.{AreTrueLogs}
use Rattle.dm_cert.specs.Answers.{Setting}
use Rattle.dm_cert.specs.RunTexts.{Run, run_text}
use Rattle.dm_check.specs.declared.verdicts.BadKind.{BadKind}
use Rattle.dm_check.specs.declared.verdicts.Verdict.TheVariants.{Bad}
use Rattle.dm_check.specs.FalseRecords.{IsVerdict}
use Rattle.dm_table.specs.Value.{TableValue, IsTable}
use Rattle.dm_table_desk.specs.Tables.{setting_of}
use Rattle.dm_restore.specs.declared.stops.RestoreStop.{RestoreStop}
use Rattle.dm_restore.specs.declared.stops.RestoreStop.TheVariants.{OutOfMemory, Full, Bad as IsBad}

-- the run of a table and logs, without notes
abbrev pub run_of : TableValue → List FeedLog → Run
run_of table logs = record {
  net = table.network;
  penalty = table.penalty;
  history = table.history;
  logs = logs;
  notes = [];
  times = table.times;
  cost = cost_of table.network table.rows table.times table.penalty;
}

-- the text is told bad, and the logs are not true of the table's history
pub record IsToldBad (plans : ℕ) (table : TableValue) (logs : List FeedLog) (line : ℕ) (kind : BadKind) : Type 0 where
  pub verdict : IsVerdict table.network table.start table.penalty plans (run_text 2 (run_of table logs)) (Bad line kind)
  pub untrue : AreTrueLogs (setting_of plans table) table.history logs → ⊥

abbrev pub StopsJudging : ℕ → TableValue → List FeedLog → RestoreStop → Type 0
StopsJudging plans table logs OutOfMemory = Unit {0}
StopsJudging plans table logs Full = TEXT < length (run_text 2 (run_of table logs))
StopsJudging plans table logs (IsBad line kind) = IsToldBad plans table logs line kind
StopsJudging plans table logs _ = ⊥

-- ---- a desk that entered what logs name

-- where some history makes the logs true, the table has that history
abbrev pub HasEntered : Setting → List FeedLog → TableValue → Type 0
HasEntered s logs table = (history : List Entry) → IsLegal s.net s.start history → AreTrueLogs s history logs → table.history ≡ history

-- the logs are true of the history of the table
pub record IsJudged (s : Setting) (logs : List FeedLog) (plans : ℕ) (table : TableValue) : Type 0 where
  pub setting : setting_of plans table ≡ s
  pub is_table : IsTable table
  pub good : AreTrueLogs (setting_of plans table) table.history logs

-- they are not, or their text is too long
pub record IsStopped (s : Setting) (logs : List FeedLog) (why : RestoreStop) : Type 0 where
  pub plans : ℕ
  pub table : TableValue
  pub setting : setting_of plans table ≡ s
  pub is_table : IsTable table
  pub entered : HasEntered s logs table
  pub stops : StopsJudging plans table logs why

abbrev pub StopsDesk : Setting → List FeedLog → RestoreStop → Type 0
StopsDesk s logs OutOfMemory = Unit {0}
StopsDesk s logs why = IsStopped s logs why
