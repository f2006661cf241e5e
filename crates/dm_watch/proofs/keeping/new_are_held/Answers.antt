use Rattle.dm_items.specs.Holding.{IsHeldPart}
use Rattle.dm_watch.specs.Settled.{new_items}
use Rattle.dm_watch.proofs.Synced.{more_below}
use Rattle.dm_watch.proofs.keeping.new_are_held.Goals as goal

pub loop-watched-preserved : goal.loop-watched-preserved
loop-watched-preserved g c = more_below (λ w. IsHeldPart (new_items w)) c.args.feeds.now c.loop-watched.watched-index c.watched-item.result c.loop-watched-test.true c.watched-item.is c.loop-watched.invariant c.new_is_held.ensures
