use Rattle.std.proofs.Common.{List, Bool, Ok, Err, sym, subst}
use Rattle.dm_cert.specs.Logs.{all_items}
use Rattle.dm_check_answers.specs.Judging.{JournalValue, setting_of, history_of}
use Rattle.dm_check.specs.Inside.Sound.{IsSound}
use Rattle.dm_check.specs.Judged.{AreFlagged, LogsOn}
use Rattle.dm_check.proofs.Wholes.{logs_stopped, rest_stopped, logs_and_rest}
use Rattle.dm_check.proofs.checking.logs_then_rest_told.Goals as goal

pub all_logs-requires-clause-sound : goal.all_logs-requires-clause-sound
all_logs-requires-clause-sound c = subst (λ (j : JournalValue). IsSound j.setting j.history) (sym c.requires.goes_over) c.requires.sound

pub returns-in-Err : goal.returns-in-Err
returns-in-Err c =
    logs_stopped (setting_of c.args.journal.now.setting) (history_of c.args.journal.now) c.args.header.feeds c.args.lines.now c.args.logs.now.named.items c.all_logs.new.lines c.all_logs.new.lines c.all_logs.new.self.named.items c.in-Err.stop
    (subst (λ (j : JournalValue). LogsOn j.setting j.history c.args.header.feeds c.args.lines.now c.all_logs.new.lines c.args.logs.now.named.items c.all_logs.new.self.named.items (Err c.in-Err.stop)) c.requires.goes_over c.in-Err.ensures.tells)

pub returns-in-Ok-rest_told : goal.returns-in-Ok-rest_told
returns-in-Ok-rest_told c =
    let logged = subst (λ (j : JournalValue). LogsOn j.setting j.history c.args.header.feeds c.args.lines.now c.all_logs.new.lines c.args.logs.now.named.items c.all_logs.new.self.named.items (Ok c.in-Ok.plans)) c.requires.goes_over c.in-Ok.ensures.tells in
    logs_and_rest (setting_of c.args.journal.now.setting) (history_of c.args.journal.now) c.args.header.feeds c.args.lines.now c.args.logs.now.named.items c.all_logs.new.lines c.rest_told.new.lines c.all_logs.new.self.named.items c.in-Ok.plans
    c.requires.header.few logged (c.in-Ok-rest_told.ensures logged.value (subst (λ (ns : List Bool). AreFlagged (all_items logged.value) ns) (sym c.deref.ensures.value) logged.holds_of.flagged))

pub returns-in-Err-rest_told : goal.returns-in-Err-rest_told
returns-in-Err-rest_told c =
    let logged = subst (λ (j : JournalValue). LogsOn j.setting j.history c.args.header.feeds c.args.lines.now c.all_logs.new.lines c.args.logs.now.named.items c.all_logs.new.self.named.items (Ok c.in-Ok.plans)) c.requires.goes_over c.in-Ok.ensures.tells in
    rest_stopped (setting_of c.args.journal.now.setting) (history_of c.args.journal.now) c.args.header.feeds c.args.lines.now c.args.logs.now.named.items c.all_logs.new.lines c.rest_told.new.lines c.all_logs.new.self.named.items c.in-Ok.plans
    c.requires.header.few logged c.in-Err-rest_told.stop (c.in-Err-rest_told.ensures logged.value (subst (λ (ns : List Bool). AreFlagged (all_items logged.value) ns) (sym c.deref.ensures.value) logged.holds_of.flagged))
