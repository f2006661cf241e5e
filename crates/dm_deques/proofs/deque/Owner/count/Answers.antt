use Rattle.dm_deques.proofs.Keeps.{learns}
use Rattle.dm_deques.proofs.deque.Owner.count.Goals as goal

pub len_as-requires : goal.len_as-requires
len_as-requires g c = learns g.G.Grown.fits _ _ c.self.invariant.puts
