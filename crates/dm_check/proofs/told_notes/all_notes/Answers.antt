use Rattle.std.proofs.Common.{arith}
use Rattle.dm_check.proofs.Notes.{notes_begin, notes_go, notes_stop, notes_all}
use Rattle.dm_check.proofs.told_notes.all_notes.Goals as goal

pub loop-note-init : goal.loop-note-init
loop-note-init c = λ history at. notes_begin history c.args.count c.args.lines.now c.no_notes-notes.result c.no_notes-notes.ensures

pub returns-in-Err : goal.returns-in-Err
returns-in-Err c = λ history at.
    notes_stop history c.args.count c.args.lines.now c.loop-note.lines c.next_note.new.lines c.next_note.new.lines c.loop-note._note c.loop-note.notes c.next_note.new.notes c.in-Err.stop (c.loop-note.invariant history at) (omega arith)
    (λ before kept. c.in-Err.ensures history before at kept)

pub loop-note-preserved : goal.loop-note-preserved
loop-note-preserved c = λ history at.
    notes_go history c.args.count c.args.lines.now c.loop-note.lines c.next_note.new.lines c.loop-note._note c.loop-note.notes c.next_note.new.notes (c.loop-note.invariant history at) (omega arith)
    (λ before kept. c.in-Ok.ensures history before at kept)

pub returns : goal.returns
returns c = λ history at. notes_all history c.args.count c.args.lines.now c.loop-note.lines c.loop-note._note c.loop-note.notes (c.loop-note.invariant history at) (omega arith)
