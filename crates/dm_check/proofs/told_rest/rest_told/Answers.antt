use Rattle.std.proofs.Common.{sym}
use Rattle.dm_check_answers.specs.Judging.{setting_of, history_of}
use Rattle.dm_check.proofs.Wholes.{notes_stop, heading_fault, rest_on}
use Rattle.dm_check.proofs.told_rest.rest_told.Goals as goal

pub returns-in-Err-all_notes : goal.returns-in-Err-all_notes
returns-in-Err-all_notes c = λ logs flagged.
    notes_stop (setting_of c.args.journal.now.setting) (history_of c.args.journal.now) logs c.args.lines.now c.in-Ok.notes c.boards_told.new.lines (c.in-Ok.ensures (history_of c.args.journal.now) logs c.requires.each flagged)
    c.all_notes.new.lines c.all_notes.new.lines c.in-Err-all_notes.stop (c.in-Err-all_notes.ensures (history_of c.args.journal.now) c.requires.counted)

pub returns-in-Err-heading_told : goal.returns-in-Err-heading_told
returns-in-Err-heading_told c = λ logs flagged.
    heading_fault (setting_of c.args.journal.now.setting) (history_of c.args.journal.now) logs c.args.lines.now c.in-Ok.notes c.boards_told.new.lines (c.in-Ok.ensures (history_of c.args.journal.now) logs c.requires.each flagged)
    c.all_notes.new.lines (c.in-Ok-all_notes.ensures (history_of c.args.journal.now) c.requires.counted) c.args.entries (sym c.requires.counted) c.heading_told.new.lines c.in-Err-heading_told.fault c.in-Err-heading_told.ensures

pub returns : goal.returns
returns c = λ logs flagged.
    rest_on (setting_of c.args.journal.now.setting) (history_of c.args.journal.now) logs c.args.lines.now c.in-Ok.notes c.boards_told.new.lines (c.in-Ok.ensures (history_of c.args.journal.now) logs c.requires.each flagged)
    c.all_notes.new.lines (c.in-Ok-all_notes.ensures (history_of c.args.journal.now) c.requires.counted) c.args.entries (sym c.requires.counted) c.in-Ok-heading_told._entries c.heading_told.new.lines c.ending_told.new.lines
    c.args.checked.now.rows c.ending_told.result c.in-Ok-heading_told.ensures c.requires.rows_are (λ notes. c.ending_told.ensures logs notes)
