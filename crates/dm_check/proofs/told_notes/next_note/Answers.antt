use Rattle.std.proofs.Common.{refl}
use Rattle.dm_records.specs.Readings.{note}
use Rattle.dm_check.proofs.Notes.{note_kept}
use Rattle.dm_check.proofs.told_notes.next_note.Goals as goal

pub returns : goal.returns
returns c = λ history before at kept. record {
  value = note c.in-Ok.said;
  told = record { value = note c.in-Ok.said; behind = c.note_told.new.lines; told = c.in-Ok.ensures; then = (c.if-not-is_next_note.ensures history before at kept, refl, refl) };
  holds_of = note_kept before (note c.in-Ok.said) c.args.notes.now _ kept c.in-Ok-push.ensures.items refl;
}
