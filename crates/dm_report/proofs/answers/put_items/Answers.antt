use Rattle.dm_outside.proofs.Printing.{prints_next, prints_fault_next}
use Rattle.dm_report.proofs.answers.put_items.Goals as goal

pub loop-item-preserved : goal.loop-item-preserved
loop-item-preserved g c = prints_next _ _ _ c.loop-item-test.true c.item-item.is c.loop-item.invariant c.in-Ok.ensures

pub returns-in_default : goal.returns-in_default
returns-in_default g c = prints_fault_next _ _ _ c.loop-item-test.true c.item-item.is c.loop-item.invariant c.in_default.ensures
