use Rattle.std.proofs.Common.{ℕ, ◌<◌, get_or}
use Rattle.dm_cert.specs.PlanTexts.{FitsDecision}
use Rattle.dm_report.proofs.fitting.decisions_fit.Given as goal

abbrev pub invariant-loop-decision : goal.invariant-loop-decision
invariant-loop-decision l = (k : ℕ) (d : _) → k < l.decision-index → FitsDecision (get_or l.decisions k d)
