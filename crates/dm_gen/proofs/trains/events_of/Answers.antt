use Rattle.std.proofs.Common.{[]}
use Rattle.dm_gen.specs.Trains.{events_of_train}
use Rattle.dm_gen.proofs.Growing.{more_lists}
use Rattle.dm_gen.proofs.trains.events_of.Goals as goal

pub loop-train-preserved : goal.loop-train-preserved
loop-train-preserved c =
    more_lists events_of_train [] c.loop-train.events.items c.put_train.new.events.items c.loop-train.train
    c.in_ok-put_train.ensures c.loop-train.invariant
