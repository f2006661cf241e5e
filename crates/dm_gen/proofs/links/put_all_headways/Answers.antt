use Rattle.dm_gen.specs.Activities.{headways_of_train}
use Rattle.dm_gen.proofs.Growing.{more_lists}
use Rattle.dm_gen.proofs.links.put_all_headways.Goals as goal

pub loop-train-preserved : goal.loop-train-preserved
loop-train-preserved c =
    more_lists headways_of_train c.args.links.now.items c.loop-train.links.items c.put_headways.new.links.items c.loop-train.train
    c.in_ok-put_headways.ensures c.loop-train.invariant
