use Rattle.dm_records.proofs.LinesRead.{note_is, note_none}
use Rattle.dm_records.proofs.lines.note_line.Goals as goal

pub returns-in_default : goal.returns-in_default
returns-in_default c = note_none c.args.line.now c.in_default.ensures.reads

pub returns : goal.returns
returns c = note_is c.args.line.now _ _ _ c.in-Some.ensures.reads
