-- What answers are judged by, and what stands before them.
use Rattle.std.specs.Prelude.{ℕ, ◌≡◌, ◌≤◌, List, length, Bool, fold, count_by, Option, Some, None}
use Rattle.std.specs.Borrow.{Bor}
use Rattle.dm_base.specs.declared.limits.TheConstants.{PENALTY}
use Rattle.dm_rows.specs.declared.messages.Entry.{Entry}
use Rattle.dm_rows.specs.Rows.{IsSized}
use Rattle.dm_tree.specs.declared.adopting.Chosen.{Chosen}
use Rattle.dm_cert.specs.declared.limits.TheConstants.{PLANS}
use Rattle.dm_cert.specs.declared.replies.LogItem.{LogItem}
use Rattle.dm_cert.specs.declared.replies.Reply.{Reply}
use Rattle.dm_cert.specs.declared.replies.Reply.TheVariants.{Ok, Refused, Old}
use Rattle.dm_cert.specs.Answers.{Setting, rows_after, is_plan, latest_plan, IsEntry, IsAdopted, IsOld, HasNoRoom}
use Rattle.dm_cert.specs.Logs.{kind_of, line_of, number_after}
use Rattle.dm_cert.specs.PlanTexts.{IsVersion}
use Rattle.dm_check_rows.specs.Claims.{AreCheckedRowsOf, CheckedRowsValue, Tells}
use Rattle.dm_check_answers.specs.Claims.{IsKnown}
use Rattle.dm_check_answers.specs.declared.journal.RunSetting.{RunSetting}
use Rattle.dm_check_answers.specs.declared.journal.Journal.{Journal}
use Rattle.dm_check_answers.specs.declared.known.Known.{Known}
use Rattle.dm_check_answers.specs.declared.past.Past.{Past}

-- ---- what answers are judged by

abbrev pub setting_of : RunSetting → Setting
setting_of d =
    record { net = d.net.now; start = d.start.now; penalty = d.penalty; plans = d.plans; version = d.version }

abbrev pub history_of : Journal → List Entry
history_of j = j.entries.now

-- the rows at the start are of the network, the penalty is not too large, nor the number of plans, and there is such a version
pub record IsRunSetting (d : RunSetting) : Type 0 where
  pub sized : IsSized d.net.now d.start.now
  pub penalty : d.penalty ≤ PENALTY
  pub plans : d.plans ≤ PLANS
  pub version : IsVersion d.version

-- a journal is seen as the setting and the entries
pub record JournalValue : Type 0 where
  pub setting : Setting
  pub history : List Entry

abbrev pub value_of : Journal → JournalValue
value_of j = record { setting = setting_of j.setting; history = history_of j }

-- a replay is seen as its journal, and after how many entries its rows are
pub record ReplayValue : Type 0 where
  pub journal : JournalValue
  pub entry : ℕ

-- these are the rows after so many entries of a journal, and what is known of claims is right
pub record IsReplay (j : Journal) (checked : CheckedRowsValue) (entry : ℕ) (known : Known) : Type 0 where
  pub setting : IsRunSetting j.setting
  pub rows_are : checked.rows ≡ rows_after (setting_of j.setting) (history_of j) entry
  pub within : entry ≤ length (history_of j)
  pub stands : AreCheckedRowsOf j.setting.net.now checked
  pub knows : IsKnown (setting_of j.setting) (history_of j) known

-- ---- what stands before an item of a log

-- the line and the entry number that were last among the items, or 0
abbrev pub line_before : List LogItem → ℕ
line_before before = fold (λ last answered. line_of answered) 0 before

abbrev pub number_before : List LogItem → ℕ
number_before before = fold (λ last answered. number_after last (kind_of answered)) 0 before

pub record IsPast (before : List LogItem) (past : Past) : Type 0 where
  pub line : past.line ≡ line_before before
  pub number : past.number ≡ number_before before
  pub latest : past.latest ≡ latest_plan before
  pub plans : past.plans ≡ count_by is_plan before
  pub few : past.plans ≤ PLANS

-- ---- entries and adoptions

-- the entry of a number, where there is one
abbrev pub IsEntryAt : List Entry → ℕ → Option (Bor Entry) → Type 0
IsEntryAt history n (Some entry) = IsEntry history n entry.now
IsEntryAt history n None = (entry : Entry) → IsEntry history n entry → ⊥

-- whether the answer to an adoption is true where this is the latest plan
abbrev pub AdoptsTruly : List Entry → ℕ → ℕ → Chosen → Reply → Bool → Type 0
AdoptsTruly history feed line plan (Ok n) result = Tells (IsAdopted history feed line n plan) result
AdoptsTruly history feed line plan (Old n) result = Tells (IsOld history n plan) result
AdoptsTruly history feed line plan (Refused at) result = Tells (HasNoRoom history at.entry at.why plan) result
AdoptsTruly history feed line plan _ result = Tells ⊥ result
