use Rattle.dm_deques.proofs.Keeps.{merges}
use Rattle.dm_deques.proofs.deque.Owner.settle.Goals as goal

pub absorb-requires-clause-rule : goal.absorb-requires-clause-rule
absorb-requires-clause-rule g c = merges g.G.Grown.fits _ _ _ _ c.self.invariant.puts c.tally.invariant.puts c.tally.invariant.is_out
