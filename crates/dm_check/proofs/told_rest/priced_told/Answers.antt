use Rattle.dm_check_answers.specs.Judging.{setting_of, history_of}
use Rattle.dm_check.proofs.Wholes.{end_fault, ends_well}
use Rattle.dm_check.proofs.told_rest.priced_told.Goals as goal

pub returns-in-Ok-end_told : goal.returns-in-Ok-end_told
returns-in-Ok-end_told c = λ logs notes.
    ends_well (setting_of c.args.journal.now.setting) (history_of c.args.journal.now) logs notes c.args.checked.now.rows c.args.lines.now c.timetable_told.new.lines c.in-Ok.ensures c.in-Ok-cost_told._cost c.cost_told.new.lines c.in-Ok-cost_told.ensures
    c.end_told.new.lines c.in-Ok-end_told.ensures

pub returns-in-Err-end_told : goal.returns-in-Err-end_told
returns-in-Err-end_told c = λ logs notes.
    end_fault (setting_of c.args.journal.now.setting) (history_of c.args.journal.now) logs notes c.args.checked.now.rows c.args.lines.now c.timetable_told.new.lines c.in-Ok.ensures c.in-Ok-cost_told._cost c.cost_told.new.lines c.in-Ok-cost_told.ensures
    c.end_told.new.lines c.in-Err-end_told.fault c.in-Err-end_told.ensures
