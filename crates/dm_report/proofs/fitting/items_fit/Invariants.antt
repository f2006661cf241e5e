use Rattle.std.proofs.Common.{ℕ, ◌<◌, get_or}
use Rattle.dm_cert.specs.RunTexts.{FitsItem}
use Rattle.dm_report.proofs.fitting.items_fit.Given as goal

abbrev pub invariant-loop-item : goal.invariant-loop-item
invariant-loop-item l = (k : ℕ) (d : _) → k < l.item-index → FitsItem (get_or l.items k d)
