-- Stages of a generated day.
use Rattle.std.specs.Prelude.{ℕ, ◌≡◌, ◌≤◌, ◌⊎◌, List, Option}
use Rattle.dm_base.specs.declared.limits.TheConstants.{PENALTY}
use Rattle.dm_words.specs.Words.{GenAsked}
use Rattle.dm_report.specs.declared.summaries.Summary.{Summary}
use Rattle.dm_report.specs.Summaries.{summary_text}
use Rattle.dm_summary.specs.Summed.{IsSummaryOf}
use Rattle.dm_commands.specs.declared.status.Status.{Status}
use Rattle.dm_commands.specs.declared.status.Status.TheVariants.{Ok as Well, NoMemory}
use Rattle.dm_commands.specs.Ends.{EndsAs}

-- the numbers of words that ask for a generated day
pub record IsDayWithin (asked : GenAsked) : Type 0 where
  pub some_train : 1 ≤ asked.trains
  pub few_trains : asked.trains ≤ 2000
  pub penalty : asked.penalty ≤ PENALTY

-- the day's summary is printed, unless memory is wanted
abbrev pub EndsGenerated : {K : Type 0} → (K → Option (List ℕ)) → (K → ℕ) → GenAsked → K → K → Status → Type 0
EndsGenerated taken faults asked before now result =
    ((summary : Summary) × IsSummaryOf asked.number asked.trains asked.penalty summary
    × EndsAs taken faults before now (summary_text summary) Well result)
    ⊎ ((now ≡ before) × (result ≡ NoMemory))
