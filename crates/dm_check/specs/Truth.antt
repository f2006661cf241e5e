-- What the verdict on a text says of runs.
use Rattle.std.specs.Prelude.{ℕ, ◌≤◌, ◌↔◌, List, length, count_by}
use Rattle.dm_base.specs.declared.limits.TheConstants.{PENALTY}
use Rattle.dm_network.specs.Net.{Net, EventIdsFit, IsWithinLimits}
use Rattle.dm_network.specs.Start.{IsNetwork}
use Rattle.dm_rows.specs.Rows.{RowsValue, RowsAreWithinLimits}
use Rattle.dm_cert.specs.Answers.{is_plan}
use Rattle.dm_cert.specs.Logs.{all_items}
use Rattle.dm_cert.specs.RunTexts.{Run}
use Rattle.dm_cert.specs.Runs.{IsTextOf, IsRunText}
use Rattle.dm_check.specs.declared.verdicts.Verdict.{Verdict}
use Rattle.dm_check.specs.declared.verdicts.Verdict.TheVariants.{Good, Bad}
use Rattle.dm_check.specs.FalseRecords.{IsVerdict}

-- The text, in either version, of a true run over a network is good, with as many entries as its history and as many plans as
-- its logs have.
abbrev pub TrueTextsAreGood : Type 0
TrueTextsAreGood =
    (version most_plans : ℕ) (start : RowsValue) (run : Run) (text : List ℕ) → IsNetwork run.net → IsWithinLimits run.net →
    EventIdsFit run.net → IsTextOf version most_plans start run text →
    IsVerdict run.net start run.penalty most_plans text (Good (length run.history) (count_by is_plan (all_items run.logs)))

-- A good text is that of a true run of the network, from these rows at the start and at this penalty, where a feed may have so
-- many plans.
abbrev pub GoodTextsAreTrue : Type 0
GoodTextsAreTrue =
    (net : Net) (start : RowsValue) (penalty most_plans : ℕ) (text : List ℕ) (entries plans : ℕ) → IsNetwork net → IsWithinLimits net →
    RowsAreWithinLimits start → penalty ≤ PENALTY → IsVerdict net start penalty most_plans text (Good entries plans) →
    IsRunText net start penalty most_plans text

-- the verdict is that the text is good
abbrev pub SaysGood : Verdict → Type 0
SaysGood (Good entries plans) = Unit {0}
SaysGood (Bad line kind) = ⊥

-- some verdict says that no record of the text breaks its rule
pub record HasNoFalseRecord (net : Net) (start : RowsValue) (penalty most_plans : ℕ) (text : List ℕ) : Type 0 where
  pub entries : ℕ
  pub plans : ℕ
  pub good : IsVerdict net start penalty most_plans text (Good entries plans)

-- The run texts of a network, from rows at the start and at a penalty within the limits, and for any number of plans, are exactly
-- the texts in which no record breaks its rule.
abbrev pub RunTextsAreTheGoodOnes : Type 0
RunTextsAreTheGoodOnes =
    (net : Net) (start : RowsValue) (penalty most_plans : ℕ) (text : List ℕ) → IsNetwork net → IsWithinLimits net →
    EventIdsFit net → RowsAreWithinLimits start → penalty ≤ PENALTY →
    IsRunText net start penalty most_plans text ↔ HasNoFalseRecord net start penalty most_plans text
