use Rattle.std.proofs.Common.{ℕ, ◌<◌, get_or}
use Rattle.dm_cert.specs.RunTexts.{FitsNote}
use Rattle.dm_report.proofs.fitting.notes_fit.Given as goal

abbrev pub invariant-loop-note : goal.invariant-loop-note
invariant-loop-note l = (k : ℕ) (d : _) → k < l.note-index → FitsNote (get_or l.notes k d)
