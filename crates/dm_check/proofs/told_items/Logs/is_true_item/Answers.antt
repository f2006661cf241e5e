use Rattle.std.proofs.Common.{subst, sym}
use Rattle.dm_cert.specs.declared.replies.LogItem.{LogItem}
use Rattle.dm_check.specs.Inside.TrueLogs.{IsNextOn}
use Rattle.dm_check.proofs.told_items.Logs.is_true_item.Goals as goal

pub returns-in-Malformed-clause-tells : goal.returns-in-Malformed-clause-tells
returns-in-Malformed-clause-tells c = λ before past.
    let s = c.args.self.now.replay.journal.setting in
    let history = c.args.self.now.replay.journal.history in
    let named = c.args.self.now.named.items in
    subst (λ (answered : LogItem). IsNextOn s history c.args.feed before answered c.is_true_malformed.new.past named named c.is_true_malformed.result) (sym c.in-Malformed.is)
    (c.is_true_malformed.ensures s history c.args.feed before named past)
