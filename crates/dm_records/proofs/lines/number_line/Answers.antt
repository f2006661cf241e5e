use Rattle.dm_records.proofs.LinesRead.{number_read}
use Rattle.dm_records.proofs.lines.number_line.Goals as goal

pub returns : goal.returns
returns c = number_read c.args.words.now c.args.line.now c.one_whole.result c.one_whole.ensures.reads
