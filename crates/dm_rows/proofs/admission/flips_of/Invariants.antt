use Rattle.dm_rows.proofs.Adopting.{HasNamed}
use Rattle.dm_rows.proofs.admission.flips_of.Given as goal

abbrev pub invariant-loop-decision : goal.invariant-loop-decision
invariant-loop-decision l = HasNamed l.net l.rows l.decisions l.decision-index l.flips.items
