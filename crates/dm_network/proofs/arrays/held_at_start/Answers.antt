use Rattle.std.proofs.Common.{◌∙◌}
use Rattle.dm_network.specs.Net.{no_activity}
use Rattle.dm_network.specs.Inside.Stages.{net_with}
use Rattle.dm_network.proofs.Arraying.{held_more}
use Rattle.dm_network.proofs.arrays.held_at_start.Goals as goal

pub binds-requires : goal.binds-requires
binds-requires c = c.requires c.loop-activity.activity-index no_activity c.loop-activity-test.true

pub loop-activity-preserved : goal.loop-activity-preserved
loop-activity-preserved c =
    c.in_ok-push.ensures.items
    ∙ held_more (net_with c.args.events.now c.args.activities.now c.args.pairs.now) c.loop-activity.activity-index c.loop-activity.held.items c.binds.result
    c.loop-activity.invariant c.binds.ensures
