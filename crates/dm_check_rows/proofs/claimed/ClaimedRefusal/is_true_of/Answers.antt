use Rattle.dm_check_rows.proofs.Refused.{at_once, told_at_once}
use Rattle.dm_check_rows.proofs.claimed.ClaimedRefusal.is_true_of.Goals as goal

pub returns-in_default : goal.returns-in_default
returns-in_default c =
    told_at_once c.args.self.now.net.now c.args.self.now.rows.now c.args.self.now.entries c.args.self.now.message.now c.args.refusal.now c.args.self.now.why.now c.is_same_refusal.result
    (at_once c.args.self.now.net.now c.args.self.now.rows.now c.args.self.now.message.now c.args.refusal.now c.in_default.not-OutOfMemory c.requires) c.is_same_refusal.ensures
