use Rattle.std.proofs.Common.{ℕ, ◌<◌, get_or}
use Rattle.dm_cert.specs.RunTexts.{FitsLog}
use Rattle.dm_report.proofs.fitting.logs_fit.Given as goal

abbrev pub invariant-loop-log : goal.invariant-loop-log
invariant-loop-log l = (k : ℕ) (d : _) → k < l.log-index → FitsLog (get_or l.logs k d)
