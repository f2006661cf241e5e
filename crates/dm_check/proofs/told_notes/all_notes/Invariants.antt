use Rattle.std.proofs.Common.{◌≡◌, List, length}
use Rattle.dm_rows.specs.declared.messages.Entry.{Entry}
use Rattle.dm_check.proofs.Notes.{HasNotes}
use Rattle.dm_check.proofs.told_notes.all_notes.Given as goal

abbrev pub invariant-loop-note : goal.invariant-loop-note
invariant-loop-note l = (history : List Entry) → length history ≡ l.entries → HasNotes history l.count l.initial.lines l.lines l._note l.notes
