use Rattle.dm_check.proofs.Logs.{log_stop, log_unended, log_all}
use Rattle.dm_check.proofs.told_items.Logs.next_log.Goals as goal

pub returns-in-Err-all_items-clause-tells : goal.returns-in-Err-all_items-clause-tells
returns-in-Err-all_items-clause-tells c = λ before at.
    log_stop c.args.self.now.replay.journal.setting c.args.self.now.replay.journal.history before c.args.feed at c.args.lines.now c.args.self.now.named.items c.all_items.new.self.named.items c.in-Ok.items c.feed_told.new.lines c.in-Ok.ensures c.all_items.new.lines
    c.all_items.new.lines c.all_items.new.self.named.items c.in-Err-all_items.stop c.in-Err-all_items.ensures.tells

pub returns-in-Ok-stop_told-clause-tells : goal.returns-in-Ok-stop_told-clause-tells
returns-in-Ok-stop_told-clause-tells c = λ before at.
    log_all c.args.self.now.replay.journal.setting c.args.self.now.replay.journal.history before c.args.feed at c.args.lines.now c.args.self.now.named.items c.all_items.new.self.named.items c.in-Ok.items c.feed_told.new.lines c.in-Ok.ensures c.in-Ok-all_items.plans
    c.all_items.new.lines c.in-Ok-all_items.ensures.tells c.stop_told.new.lines c.in-Ok-stop_told._stop c.in-Ok-stop_told.ensures

pub returns-in-Err-stop_told-clause-tells : goal.returns-in-Err-stop_told-clause-tells
returns-in-Err-stop_told-clause-tells c = λ before at.
    log_unended c.args.self.now.replay.journal.setting c.args.self.now.replay.journal.history before c.args.feed at c.args.lines.now c.args.self.now.named.items c.all_items.new.self.named.items c.in-Ok.items c.feed_told.new.lines c.in-Ok.ensures c.in-Ok-all_items.plans
    c.all_items.new.lines c.in-Ok-all_items.ensures.tells c.stop_told.new.lines c.in-Err-stop_told.fault c.in-Err-stop_told.ensures
