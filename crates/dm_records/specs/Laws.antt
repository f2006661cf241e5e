-- What holds of all lines, of all runs, and of their texts.
use Rattle.std.specs.Prelude.{ℕ, ◌≡◌, ◌^◌, ◌<◌, List, ◌++◌, length, All}
use Rattle.dm_network.specs.Net.{IsWithinLimits}
use Rattle.dm_network.specs.Start.{IsNetwork}
use Rattle.dm_rows.specs.Rows.{RowsValue}
use Rattle.dm_cert.specs.declared.replies.Reply.{Reply}
use Rattle.dm_cert.specs.declared.replies.Reply.TheVariants.{Planned, Solved}
use Rattle.dm_cert.specs.declared.replies.LogItem.{LogItem}
use Rattle.dm_cert.specs.declared.replies.LogItem.TheVariants.{Malformed, Answered}
use Rattle.dm_cert.specs.declared.replies.FeedLog.{FeedLog}
use Rattle.dm_cert.specs.PlanTexts.{IsVersion}
use Rattle.dm_cert.specs.PlanLaws.{IsHeld, IsHeldSolved}
use Rattle.dm_cert.specs.RunTexts.{Run, run_text, FitsRun, IsSpelledRun}
use Rattle.dm_cert.specs.Runs.{IsTextOf}
use Rattle.dm_records.specs.RunLines.{IsNumberLine, IsVersionLine, IsEntryLine, IsOpeningLine, IsItemLine, IsStopLine, IsNoteLine, IsTimeLine}

-- ---- lines

-- a line spells at most one value
abbrev pub SpellsOne : {V : Type 0} → (V → List ℕ → Type 0) → Type 0
SpellsOne {V} spells = (line : List ℕ) (v w : V) → spells v line → spells w line → v ≡ w

-- a line of each kind spells one record alone
pub record LinesSpellOne : Type 0 where
  pub numbers : (words : List ℕ) → SpellsOne (IsNumberLine words)
  pub versions : SpellsOne IsVersionLine
  pub entries : SpellsOne IsEntryLine
  pub openings : SpellsOne IsOpeningLine
  pub items : (version : ℕ) → SpellsOne (IsItemLine version)
  pub stops : SpellsOne IsStopLine
  pub notes : SpellsOne IsNoteLine
  pub times : SpellsOne IsTimeLine

-- ---- runs

-- memory holds the lists of a plan that is answered
abbrev pub IsHeldReply : Reply → Type 0
IsHeldReply (Planned plan) = IsHeld plan
IsHeldReply (Solved plan) = IsHeldSolved plan
IsHeldReply _ = Unit {0}

abbrev pub IsHeldItem : LogItem → Type 0
IsHeldItem (Malformed line) = Unit {0}
IsHeldItem (Answered line said reply) = IsHeldReply reply

pub record IsHeldLog (log : FeedLog) : Type 0 where
  pub size : length log.items < 2 ^ 64
  pub items : All IsHeldItem log.items

-- memory holds the run's lists
pub record IsHeldRun (run : Run) : Type 0 where
  pub history : length run.history < 2 ^ 64
  pub feeds : length run.logs < 2 ^ 64
  pub logs : All IsHeldLog run.logs
  pub notes : length run.notes < 2 ^ 64

-- The run is one that can stand in print: every item has a spelling, there is a time for each event, its numbers are ones that
-- types hold, and its lists ones that memory holds.
pub record IsInPrint (run : Run) : Type 0 where
  pub spelled : IsSpelledRun run
  pub fits : FitsRun run
  pub held : IsHeldRun run

-- they are one run in one version, and what stands behind its text is the same
pub record IsSameRun (version other_version : ℕ) (one other : Run) (rest more : List ℕ) : Type 0 where
  pub same_version : version ≡ other_version
  pub run : one ≡ other
  pub behind : rest ≡ more

-- Two runs over one network whose texts, each in a version, begin one text are one run in one version. So different runs have
-- different texts, one run has different texts in the two versions, no text of a run is a proper front of another's, and what
-- follows a run's text does not change how it is read.
abbrev pub RunsHaveOwnTexts : Type 0
RunsHaveOwnTexts =
    (version other_version : ℕ) (one other : Run) (rest more : List ℕ) → IsVersion version → IsVersion other_version →
    IsInPrint one → IsInPrint other → one.net ≡ other.net →
    run_text version one ++ rest ≡ run_text other_version other ++ more →
    IsSameRun version other_version one other rest more

-- they are one run in one version
pub record IsOneRun (version other_version : ℕ) (one other : Run) : Type 0 where
  pub same_version : version ≡ other_version
  pub run : one ≡ other

-- Where one text is that of two true runs over one network, from whatever rows and with however many plans, they are one run in
-- one version: a true text tells all that is in it. No list is too long here, since the truth of a run keeps its lists short.
abbrev pub TextsTellOneRun : Type 0
TextsTellOneRun =
    (version other_version plans other_plans : ℕ) (start other_start : RowsValue) (one other : Run) (text : List ℕ) →
    IsNetwork one.net → IsWithinLimits one.net → IsTextOf version plans start one text →
    IsTextOf other_version other_plans other_start other text →
    one.net ≡ other.net → IsOneRun version other_version one other
