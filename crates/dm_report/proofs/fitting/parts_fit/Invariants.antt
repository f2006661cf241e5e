use Rattle.std.proofs.Common.{ℕ, ◌<◌, get_or}
use Rattle.dm_cert.specs.SolvedTexts.{FitsPart}
use Rattle.dm_report.proofs.fitting.parts_fit.Given as goal

abbrev pub invariant-loop-part : goal.invariant-loop-part
invariant-loop-part l = (k : ℕ) (d : _) → k < l.part-index → FitsPart (get_or l.parts k d)
