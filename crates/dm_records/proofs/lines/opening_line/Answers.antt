use Rattle.dm_records.proofs.LinesRead.{opening_is, opening_none}
use Rattle.dm_records.proofs.lines.opening_line.Goals as goal

pub returns-in_default : goal.returns-in_default
returns-in_default c = opening_none c.args.line.now c.in_default.ensures.reads

pub returns : goal.returns
returns c = opening_is c.args.line.now _ _ c.in-Some.ensures.reads
