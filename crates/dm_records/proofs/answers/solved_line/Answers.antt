use Rattle.dm_records.proofs.AnswersRead.{solved_unknown, solved_no_space, solved_read, is_second}
use Rattle.dm_records.proofs.answers.solved_line.Goals as goal

pub returns-then-version-eq1 : goal.returns-then-version-eq1
returns-then-version-eq1 c = solved_unknown c.args.version c.args.line.now c.if-version-eq1.true

pub returns-in_default : goal.returns-in_default
returns-in_default c = solved_no_space c.args.version c.args.line.now c.in_default.ensures

pub returns : goal.returns
returns c =
    solved_read c.args.version c.args.line.now _ c.solved_heading_in.result (is_second c.args.version c.requires c.if-version-eq1.false) c.in-Some.ensures
    c.solved_heading_in.ensures
