use Rattle.dm_gen.specs.Activities.{change}
use Rattle.dm_gen.proofs.Growing.{more_items}
use Rattle.dm_gen.proofs.links.put_all_changes.Goals as goal

pub loop-train-preserved : goal.loop-train-preserved
loop-train-preserved c =
    more_items change c.args.links.now.items c.loop-train.links.items c.push.new.self.items c.loop-train.train
    c.change.result c.in_ok-push.ensures.items c.change.ensures c.loop-train.invariant
