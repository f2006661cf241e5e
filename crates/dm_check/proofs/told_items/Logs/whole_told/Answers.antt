use Rattle.dm_check.proofs.Items.{lone_told}
use Rattle.dm_check.proofs.told_items.Logs.whole_told.Goals as goal

pub returns-in-Ok-true-clause-tells : goal.returns-in-Ok-true-clause-tells
returns-in-Ok-true-clause-tells c = λ before place past.
    lone_told c.args.self.now.replay.journal.setting c.args.self.now.replay.journal.history c.args.feed before c.is_true_item.new.past c.args.self.now.named.items c.is_true_item.new.self.named.items c.args.first place
    c.args.item.now _ (c.in-Ok-true.ensures.tells before past) c.in-Ok-true.field-0-test
