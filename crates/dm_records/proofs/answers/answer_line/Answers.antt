use Rattle.dm_records.proofs.AnswersRead.{row_is_free, no_free_row, answer_none, answer_reads}
use Rattle.dm_records.proofs.answers.answer_line.Goals as goal

pub returns-in-Some-clause-reads : goal.returns-in-Some-clause-reads
returns-in-Some-clause-reads c = row_is_free c.args.version c.args.line.now c.in-Some.kind c.in-Some.one c.in-Some.two c.in-Some.ensures.reads

pub returns-in_default-number_behind-clause-reads : goal.returns-in_default-number_behind-clause-reads
returns-in_default-number_behind-clause-reads c = answer_none c.args.version c.args.line.now (no_free_row c.args.line.now c.in_default.ensures.reads) c.in_default-number_behind.ensures.reads

pub returns-clause-reads : goal.returns-clause-reads
returns-clause-reads c =
    answer_reads c.args.version c.in-Some-number_behind.entry c.args.line.now c.in-Some-number_behind.rest.now c.answer_at.result (no_free_row c.args.line.now c.in_default.ensures.reads)
    c.in-Some-number_behind.ensures.reads c.answer_at.ensures.reads
