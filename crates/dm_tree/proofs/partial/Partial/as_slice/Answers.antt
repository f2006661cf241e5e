use Rattle.dm_tree.proofs.Filled.{partial_tree}
use Rattle.dm_tree.proofs.partial.Partial.as_slice.Goals as goal

pub returns-clause-partial : goal.returns-clause-partial
returns-clause-partial c = rw (← c.self.view_is) (partial_tree _ c.self.invariant)
