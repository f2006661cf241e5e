use Rattle.std.proofs.Common.{arith}
use Rattle.dm_records.specs.Readings.{note}
use Rattle.dm_check.proofs.Notes.{note_tells}
use Rattle.dm_check.proofs.told_notes.is_next_note.Goals as goal

pub returns : goal.returns
returns c = λ history before at kept.
    note_tells history before (note c.args.said.now) c.args.notes.now c.deref.result.now c.is_free.result c.deref.ensures.value kept (omega (arith, c.if-said-lt1.false)) (omega (arith, c.if-said.false))
    (omega (arith, c.if-said-gt-LARGEST_STOP.false)) (omega (arith, c.if-said-notes.false)) (omega (arith, c.if-said-entries.false, at)) c.is_free.ensures
