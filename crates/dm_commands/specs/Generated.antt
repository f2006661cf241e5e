-- What is printed of a generated day.
use Rattle.std.specs.Prelude.{ℕ, ◌≡◌, List, Option, None}
use Rattle.dm_words.specs.Words.{GenAsked, GenOf, Asks}
use Rattle.dm_commands.specs.Boards.{Ended}
use Rattle.dm_report.specs.declared.summaries.Summary.{Summary}
use Rattle.dm_report.specs.Summaries.{summary_text}
use Rattle.dm_summary.specs.Summed.{IsSummaryOf}

-- the text is the summary of the day that the words ask for, at their penalty; of boards it is no run
pub record IsSummaryFor (end_boards : Option Ended → Type 0) (words : List (List ℕ)) (text : List ℕ) : Type 0 where
  pub asked : GenAsked
  pub is_asked : Asks words (GenOf asked)
  pub summary : Summary
  pub is_summary : IsSummaryOf asked.number asked.trains asked.penalty summary
  pub is_text : text ≡ summary_text summary
  pub boards : end_boards None
