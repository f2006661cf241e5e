use Rattle.dm_gen.specs.Activities.{wait}
use Rattle.dm_gen.proofs.Growing.{more_items}
use Rattle.dm_gen.proofs.links.put_waits.Goals as goal

pub loop-leg-preserved : goal.loop-leg-preserved
loop-leg-preserved c =
    more_items (wait c.args.train) c.args.links.now.items c.loop-leg.links.items c.push.new.self.items c.loop-leg.leg
    c.wait.result c.in_ok-push.ensures.items c.wait.ensures c.loop-leg.invariant
