use Rattle.std.proofs.Common.{◌+◌}
use Rattle.dm_gen.specs.Activities.{headways_on_leg}
use Rattle.dm_gen.proofs.Growing.{more_lists}
use Rattle.dm_gen.proofs.links.put_headways.Goals as goal

pub loop-leg-preserved : goal.loop-leg-preserved
loop-leg-preserved c =
    more_lists (headways_on_leg c.args.train (c.args.train + 8)) c.args.links.now.items c.loop-leg.links.items
    c.put_pair.new.links.items c.loop-leg.leg c.in_ok-put_pair.ensures c.loop-leg.invariant
