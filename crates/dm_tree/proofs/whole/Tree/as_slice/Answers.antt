use Rattle.dm_tree.proofs.Filled.{whole_tree}
use Rattle.dm_tree.proofs.whole.Tree.as_slice.Goals as goal

pub returns-clause-whole : goal.returns-clause-whole
returns-clause-whole c = rw (← c.self.view_is) (whole_tree _ c.self.invariant.0)
