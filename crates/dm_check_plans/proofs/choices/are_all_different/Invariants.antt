use Rattle.std.proofs.Common.{ℕ, ◌<◌, IsTrue, get_or}
use Rattle.dm_rows.specs.declared.messages.Decision.{Decision}
use Rattle.dm_paths.specs.Decisions.{differs_from}
use Rattle.dm_check_plans.proofs.choices.are_all_different.Given as goal

abbrev pub invariant-loop-decision : goal.invariant-loop-decision
invariant-loop-decision l = (k : ℕ) (d : Decision) → k < l.decision-index → IsTrue (differs_from l.net l.rows (get_or l.decisions k d))
