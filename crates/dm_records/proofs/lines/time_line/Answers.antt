use Rattle.dm_records.proofs.LinesRead.{time_is, time_none}
use Rattle.dm_records.proofs.lines.time_line.Goals as goal

pub returns-in_default : goal.returns-in_default
returns-in_default c = time_none c.args.line.now c.in_default.ensures.reads

pub returns : goal.returns
returns c = time_is c.args.line.now _ _ c.in-Some.ensures.reads
