use Rattle.dm_rows.proofs.FlipLemmas.{HasSet}
use Rattle.dm_rows.proofs.rows.Rows.set_all.Given as goal

abbrev pub invariant-loop-flip : goal.invariant-loop-flip
invariant-loop-flip l = HasSet l.fn.self l.flips l.flip-index l.self
