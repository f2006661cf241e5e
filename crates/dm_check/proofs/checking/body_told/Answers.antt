use Rattle.dm_check_answers.specs.Judging.{setting_of}
use Rattle.dm_check.proofs.Wholes.{feeds_fault, entries_fault, body_on}
use Rattle.dm_check.proofs.checking.body_told.Goals as goal

pub returns-in-Err-feeds_told : goal.returns-in-Err-feeds_told
returns-in-Err-feeds_told c =
    feeds_fault (setting_of c.args.setting.now) c.args.lines.now c.in-Ok._penalty c.penalty_told.new.lines c.in-Ok.ensures c.feeds_told.new.lines c.in-Err-feeds_told.fault c.in-Err-feeds_told.ensures

pub returns-in-Err-entries_told : goal.returns-in-Err-entries_told
returns-in-Err-entries_told c =
    entries_fault (setting_of c.args.setting.now) c.args.lines.now c.in-Ok._penalty c.penalty_told.new.lines c.in-Ok.ensures c.in-Ok-feeds_told.feeds c.feeds_told.new.lines c.in-Ok-feeds_told.ensures c.entries_told.new.lines c.in-Err-entries_told.fault
    c.in-Err-entries_told.ensures

pub returns : goal.returns
returns c =
    body_on (setting_of c.args.setting.now) c.args.lines.now c.in-Ok._penalty c.penalty_told.new.lines c.in-Ok.ensures c.in-Ok-feeds_told.feeds c.feeds_told.new.lines c.in-Ok-feeds_told.ensures c.in-Ok-entries_told.entries c.entries_told.new.lines
    c.history_told.new.lines c.history_told.result c.in-Ok-entries_told.ensures c.history_told.ensures
