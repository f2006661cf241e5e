use Rattle.std.proofs.Common.{arith, refl, subst, List, [], Ok, Err, Vec, Global}
use Rattle.dm_rows.specs.declared.messages.Entry.{Entry}
use Rattle.dm_check_answers.specs.Judging.{setting_of}
use Rattle.dm_check.specs.Judged.{LogsAndRestOn}
use Rattle.dm_check.proofs.Wholes.{history_stop, logs_stop, counted, history_on}
use Rattle.dm_check.proofs.Truth.ToldRuns.{sound_told}
use Rattle.dm_check.proofs.checking.entries_then_logs_told.Goals as goal

pub returns-in-Err : goal.returns-in-Err
returns-in-Err c =
    history_stop (setting_of c.args.setting.now) c.args.header.feeds c.args.header.entries c.args.lines.now {X = Vec Entry Global} (λ v. v.items) c.all_entries.new.lines c.all_entries.new.lines c.all_entries.new.checked.rows c.in-Err.stop
    (c.in-Err.ensures.tells (setting_of c.args.setting.now) refl c.requires.copied)

pub logs_and_rest_told-requires-clause-rows_are : goal.logs_and_rest_told-requires-clause-rows_are
logs_and_rest_told-requires-clause-rows_are c =
    let entered = c.in-Ok.ensures.tells (setting_of c.args.setting.now) refl c.requires.copied in
    rw c.deref.ensures.value entered.rows_are

pub logs_and_rest_told-requires-clause-sound : goal.logs_and_rest_told-requires-clause-sound
logs_and_rest_told-requires-clause-sound c =
    let entered = c.in-Ok.ensures.tells (setting_of c.args.setting.now) refl c.requires.copied in
    rw c.deref.ensures.value
    (sound_told (setting_of c.args.setting.now) c.in-Ok.history.items c.args.header.feeds c.args.header.entries c.args.lines.now c.all_entries.new.lines c.reveal.ensures.network c.reveal.ensures.within c.is_within_limits.ensures.limits
    c.requires.header.few c.requires.header.few_entries entered.told)

pub logs_and_rest_told-requires-clause-counted : goal.logs_and_rest_told-requires-clause-counted
logs_and_rest_told-requires-clause-counted c =
    let entered = c.in-Ok.ensures.tells (setting_of c.args.setting.now) refl c.requires.copied in
    let many = counted (setting_of c.args.setting.now) c.args.header.feeds c.args.header.entries c.args.lines.now c.all_entries.new.lines c.all_entries.new.lines c.all_entries.new.checked.rows c.in-Ok.history.items entered
    c.args.header.entries [] c.in-Ok.history.items c.args.lines.now c.all_entries.new.lines entered.told in
    rw c.deref.ensures.value (omega (arith, many))

pub returns-in-Ok-logs_and_rest_told : goal.returns-in-Ok-logs_and_rest_told
returns-in-Ok-logs_and_rest_told c =
    let entered = c.in-Ok.ensures.tells (setting_of c.args.setting.now) refl c.requires.copied in
    let on = subst (λ (h : List Entry). LogsAndRestOn (setting_of c.args.setting.now) h c.args.header.feeds c.all_entries.new.lines c.logs_and_rest_told.new.lines (Ok c.in-Ok-logs_and_rest_told.plans)) c.deref.ensures.value c.in-Ok-logs_and_rest_told.ensures in
    history_on (setting_of c.args.setting.now) c.args.header.feeds c.args.header.entries c.args.lines.now c.all_entries.new.lines c.logs_and_rest_told.new.lines c.all_entries.new.checked.rows c.in-Ok.history.items entered
    (record { entries = c.args.header.entries; plans = c.in-Ok-logs_and_rest_told.plans }) c.in-Ok-logs_and_rest_told.plans on refl refl

pub returns : goal.returns
returns c =
    let entered = c.in-Ok.ensures.tells (setting_of c.args.setting.now) refl c.requires.copied in
    let told = subst (λ (h : List Entry). LogsAndRestOn (setting_of c.args.setting.now) h c.args.header.feeds c.all_entries.new.lines c.logs_and_rest_told.new.lines (Err c.in-Err-logs_and_rest_told.stop)) c.deref.ensures.value c.in-Err-logs_and_rest_told.ensures in
    logs_stop (setting_of c.args.setting.now) c.args.header.feeds c.args.header.entries c.args.lines.now c.all_entries.new.lines c.logs_and_rest_told.new.lines c.all_entries.new.checked.rows c.in-Ok.history.items entered c.in-Err-logs_and_rest_told.stop told
