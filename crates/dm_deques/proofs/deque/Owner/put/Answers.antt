use Rattle.dm_deques.proofs.Keeps.{puts}
use Rattle.dm_deques.proofs.deque.Owner.put.Goals as goal

pub push_as-requires-clause-pushes : goal.push_as-requires-clause-pushes
push_as-requires-clause-pushes g c = puts g.G.Grown.fits _ _ _ c.self.invariant.puts c.requires.fits
