use Rattle.dm_deques.proofs.Keeps.{steals}
use Rattle.dm_deques.proofs.deque.Thief.steal.Goals as goal

pub steal_as-requires-clause-takes : goal.steal_as-requires-clause-takes
steal_as-requires-clause-takes g c = steals g.G.Grown.fits _ _ c.tally.invariant.is_out
