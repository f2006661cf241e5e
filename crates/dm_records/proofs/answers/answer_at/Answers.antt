use Rattle.std.proofs.Common.{refl}
use Rattle.dm_records.specs.Inside.Answers.{of_plan, of_solved, of_cycle}
use Rattle.dm_records.proofs.AnswersRead.{row_is_kind, no_row_told}
use Rattle.dm_records.proofs.answers.answer_at.Goals as goal

pub returns-in-Some-clause-reads : goal.returns-in-Some-clause-reads
returns-in-Some-clause-reads c = row_is_kind c.args.version c.args.entry c.args.line.now c.in-Some.kind c.in-Some.one c.in-Some.two c.in-Some.ensures.reads

pub returns-in-Some-plan_line-clause-reads : goal.returns-in-Some-plan_line-clause-reads
returns-in-Some-plan_line-clause-reads c = record { told = of_plan c.in-Some-plan_line.heading; is = refl; line_is = c.in-Some-plan_line.ensures }

pub returns-in-Some-solved_line-clause-reads : goal.returns-in-Some-solved_line-clause-reads
returns-in-Some-solved_line-clause-reads c = record { told = of_solved c.in-Some-solved_line.heading; is = refl; line_is = c.in-Some-solved_line.ensures }

pub returns-in-Ok-Some-clause-reads : goal.returns-in-Ok-Some-clause-reads
returns-in-Ok-Some-clause-reads c = record { told = of_cycle c.in-Ok-Some.ids; is = refl; line_is = rw c.in-Ok-Some.field-0-is at c.in-Ok-Some.ensures }

pub returns-in-Ok-None-clause-reads : goal.returns-in-Ok-None-clause-reads
returns-in-Ok-None-clause-reads c =
    no_row_told c.args.version c.args.line.now c.in_default.ensures.reads c.in_default-plan_line.ensures c.in_default-solved_line.ensures (rw c.in-Ok-None.field-0-is at c.in-Ok-None.ensures)
