-- What a plan of either kind needs besides its truth to be an answer.
use Rattle.std.specs.Prelude.{ℕ, ◌<◌, ◌≤◌, List, length, count_by}
use Rattle.dm_rows.specs.declared.messages.Entry.{Entry}
use Rattle.dm_cert.specs.declared.replies.LogItem.{LogItem}
use Rattle.dm_cert.specs.Answers.{Setting, IsBudget, is_plan}

-- so many nodes may be asked for, the feed has not had all its plans, and there are as many entries
pub record MayBePlan (s : Setting) (history : List Entry) (before : List LogItem) (budget entry : ℕ) : Type 0 where
  pub in_range : IsBudget s budget
  pub fewer : count_by is_plan before < s.plans
  pub within : entry ≤ length history
