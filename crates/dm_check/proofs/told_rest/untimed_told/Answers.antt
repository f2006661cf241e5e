use Rattle.dm_check_answers.specs.Judging.{setting_of, history_of}
use Rattle.dm_records.specs.Readings.{timed}
use Rattle.dm_check.proofs.Wholes.{untimed, unread}
use Rattle.dm_check.proofs.told_rest.untimed_told.Goals as goal

pub returns-in-Ok : goal.returns-in-Ok
returns-in-Ok c = λ logs notes.
    untimed (setting_of c.args.journal.now.setting) (history_of c.args.journal.now) logs notes c.args.rows.now c.requires.cyclic c.args.lines.now c.time_told.new.lines c.reveal.ensures.network (timed c.in-Ok._said)
    c.line-line.result c.line-line.ensures c.in-Ok.ensures

pub returns-in-Err : goal.returns-in-Err
returns-in-Err c = λ logs notes.
    unread (setting_of c.args.journal.now.setting) (history_of c.args.journal.now) logs notes c.args.rows.now c.requires.cyclic c.args.lines.now c.time_told.new.lines c.in-Err.fault c.in-Err.ensures
