use Rattle.dm_records.specs.Inside.Answers.{saying}
use Rattle.dm_records.proofs.ItemsRead.{said_no_arrow, said_no_line, said_no_answer, said_is}
use Rattle.dm_records.proofs.items.said_and_answered.Goals as goal

pub returns-in_default-clause-reads : goal.returns-in_default-clause-reads
returns-in_default-clause-reads c = said_no_arrow c.args.version c.args.line.now c.in_default.ensures

pub returns-in_default-line_said-clause-reads : goal.returns-in_default-line_said-clause-reads
returns-in_default-line_said-clause-reads c = said_no_line c.args.version c.args.line.now c.in-Some.front.now c.in-Some.tail.now c.in-Some.ensures c.in_default-line_said.ensures

pub returns-in-Ok-Some-clause-reads : goal.returns-in-Ok-Some-clause-reads
returns-in-Ok-Some-clause-reads c =
    said_is c.args.version c.args.line.now c.in-Some.front.now c.in-Some.tail.now c.in-Some-line_said.said (saying c.in-Ok-Some.answer) c.in-Some.ensures c.in-Some-line_said.ensures
    (rw c.in-Ok-Some.field-0-is at c.in-Ok-Some.ensures.reads)

pub returns-in-Ok-None-clause-reads : goal.returns-in-Ok-None-clause-reads
returns-in-Ok-None-clause-reads c =
    said_no_answer c.args.version c.args.line.now c.in-Some.front.now c.in-Some.tail.now c.in-Some.ensures (rw c.in-Ok-None.field-0-is at c.in-Ok-None.ensures.reads)
