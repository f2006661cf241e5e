use Rattle.std.proofs.Common.{refl}
use Rattle.dm_outside.proofs.Printing.{prints_next, prints_fault_next}
use Rattle.dm_report.proofs.records.put_notes.Goals as goal

pub loop-note-preserved : goal.loop-note-preserved
loop-note-preserved g c = prints_next _ _ _ c.loop-note-test.true refl c.loop-note.invariant c.in-Ok.ensures

pub returns-in_default : goal.returns-in_default
returns-in_default g c = prints_fault_next _ _ _ c.loop-note-test.true refl c.loop-note.invariant c.in_default.ensures
