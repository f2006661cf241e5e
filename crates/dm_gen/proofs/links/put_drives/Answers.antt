use Rattle.dm_gen.specs.Activities.{drive}
use Rattle.dm_gen.proofs.Growing.{more_items}
use Rattle.dm_gen.proofs.links.put_drives.Goals as goal

pub loop-leg-preserved : goal.loop-leg-preserved
loop-leg-preserved c =
    more_items (drive c.args.train) c.args.links.now.items c.loop-leg.links.items c.push.new.self.items c.loop-leg.leg
    c.drive.result c.in_ok-push.ensures.items c.drive.ensures c.loop-leg.invariant
