use Rattle.dm_deques.proofs.Keeps.{pops, finds}
use Rattle.dm_deques.proofs.deque.Owner.take.Goals as goal

pub pop_as-requires-clause-lifo : goal.pop_as-requires-clause-lifo
pop_as-requires-clause-lifo g c = λ _. pops g.G.Grown.fits _ _ c.self.invariant.puts

pub pop_as-requires-clause-empty : goal.pop_as-requires-clause-empty
pop_as-requires-clause-empty g c = finds g.G.Grown.fits _ _ c.self.invariant.puts
