use Rattle.std.proofs.Common.{subst, ◌∙◌}
use Rattle.dm_rows.specs.Rows.{RowsValue}
use Rattle.dm_check_answers.specs.Judging.{setting_of, history_of}
use Rattle.dm_check.specs.Judged.{EndingOn}
use Rattle.dm_check.proofs.told_rest.ending_told.Goals as goal

pub returns-in-Ok : goal.returns-in-Ok
returns-in-Ok c = λ logs notes.
    subst (λ (rows : RowsValue). EndingOn (setting_of c.args.journal.now.setting) (history_of c.args.journal.now) logs notes rows c.args.lines.now c.priced_told.new.lines c.priced_told.result) c.settle.ensures.rows
    (c.priced_told.ensures logs notes)

pub returns-in-Err : goal.returns-in-Err
returns-in-Err c = λ logs notes.
    subst (λ (rows : RowsValue). EndingOn (setting_of c.args.journal.now.setting) (history_of c.args.journal.now) logs notes rows c.args.lines.now c.untimed_told.new.lines c.untimed_told.result) (c.rows.ensures ∙ c.settle.ensures.rows)
    (c.untimed_told.ensures logs notes)
