use Rattle.dm_gen.specs.Activities.{links_of_train}
use Rattle.dm_gen.proofs.Growing.{more_lists}
use Rattle.dm_gen.proofs.links.put_all_trains.Goals as goal

pub loop-train-preserved : goal.loop-train-preserved
loop-train-preserved c =
    more_lists links_of_train c.args.links.now.items c.loop-train.links.items c.put_train.new.links.items c.loop-train.train
    c.in_ok-put_train.ensures c.loop-train.invariant
