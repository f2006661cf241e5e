use Rattle.std.proofs.Common.{refl}
use Rattle.dm_outside.proofs.Printing.{prints_next, prints_fault_next}
use Rattle.dm_feed.proofs.printing.put_decisions.Goals as goal

pub loop-decision-preserved : goal.loop-decision-preserved
loop-decision-preserved g c = prints_next _ _ _ c.loop-decision-test.true refl c.loop-decision.invariant c.in-Ok.ensures

pub returns-in_default : goal.returns-in_default
returns-in_default g c = prints_fault_next _ _ _ c.loop-decision-test.true refl c.loop-decision.invariant c.in_default.ensures
