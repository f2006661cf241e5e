use Rattle.std.proofs.Common.{ℕ, ◌<◌, get_or}
use Rattle.dm_cert.specs.RunTexts.{FitsEntry}
use Rattle.dm_report.proofs.fitting.entries_fit.Given as goal

abbrev pub invariant-loop-entry : goal.invariant-loop-entry
invariant-loop-entry l = (k : ℕ) (d : _) → k < l.entry-index → FitsEntry (get_or l.entries k d)
