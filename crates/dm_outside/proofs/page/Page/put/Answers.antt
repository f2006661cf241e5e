use Rattle.std.proofs.Common.{refl}
use Rattle.dm_outside.proofs.Printing.{prints_next, prints_fault_next}
use Rattle.dm_outside.proofs.page.Page.put.Goals as goal

pub loop-piece-preserved : goal.loop-piece-preserved
loop-piece-preserved g c = prints_next _ _ _ c.loop-piece-test.true refl c.loop-piece.invariant c.in-Ok.ensures

pub returns-in_default : goal.returns-in_default
returns-in_default g c = prints_fault_next _ _ _ c.loop-piece-test.true refl c.loop-piece.invariant c.in_default.ensures
