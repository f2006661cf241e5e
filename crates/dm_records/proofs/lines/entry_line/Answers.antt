use Rattle.std.proofs.Common.{◌∙◌, ap, Err}
use Rattle.dm_records.proofs.LinesRead.{entry_is, entry_no_numbers, entry_no_space, entry_no_message}
use Rattle.dm_records.proofs.lines.entry_line.Goals as goal

pub returns-in_default : goal.returns-in_default
returns-in_default c = entry_no_numbers c.args.line.now c.in_default.ensures.reads

pub returns-in_default-behind : goal.returns-in_default-behind
returns-in_default-behind c = entry_no_space c.args.line.now _ _ _ _ c.in-Some.ensures.reads c.in_default-behind.ensures

pub returns-in-Ok : goal.returns-in-Ok
returns-in-Ok c = entry_is c.args.line.now _ _ _ _ _ _ c.in-Some.ensures.reads c.in-Some-behind.ensures c.in-Ok.ensures.ok

pub returns-in-Err-Form : goal.returns-in-Err-Form
returns-in-Err-Form c = entry_no_message c.args.line.now _ _ _ _ _ c.in-Some.ensures.reads c.in-Some-behind.ensures (c.read_message.ensures.form (c.in-Err-Form.is ∙ ap Err c.in-Err-Form.field-0-is))
