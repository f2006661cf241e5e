use Rattle.dm_records.proofs.AnswersRead.{plan_no_space, plan_read}
use Rattle.dm_records.proofs.answers.plan_line.Goals as goal

pub returns-in_default : goal.returns-in_default
returns-in_default c = plan_no_space c.args.version c.args.line.now c.in_default.ensures

pub returns : goal.returns
returns c = plan_read c.args.version c.args.line.now _ c.heading_in.result c.in-Some.ensures c.heading_in.ensures
