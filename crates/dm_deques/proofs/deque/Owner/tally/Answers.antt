use Rattle.dm_deques.proofs.Keeps.{forks}
use Rattle.dm_deques.proofs.deque.Owner.tally.Goals as goal

pub another-requires : goal.another-requires
another-requires g c = forks g.G.Grown.fits _ _ c.self.invariant.puts
