use Rattle.std.proofs.Common.{rules, ◌∙◌, arith}
use Rattle.dm_network.proofs.TwoWay.{paired_none, paired_step, paired_all, written_back}
use Rattle.dm_network.proofs.pairing.paired.Goals as goal

pub loop-activity-init : goal.loop-activity-init
loop-activity-init c = rw c.deref_mut-activity-items.ensures.value (paired_none c.args.pairs.now c.args.activities.items)

pub loop-activity-preserved : goal.loop-activity-preserved
loop-activity-preserved c =
    paired_step c.args.pairs.now c.args.activities.items c.loop-activity.activity-index c.loop-activity.activity-items c.own_pair-activity.result
    c.loop-activity.invariant (let n = c.loop-activity.auto.activity-items in omega arith) c.own_pair-activity.ensures

pub returns : goal.returns
returns c =
    let n = c.loop-activity.invariant.as_many in
    written_back c.args.activities.len c.loop-activity.activity-items _ (search rules) ∙
    paired_all c.args.pairs.now c.args.activities.items c.loop-activity.activity-index c.loop-activity.activity-items c.loop-activity.invariant (omega arith)
