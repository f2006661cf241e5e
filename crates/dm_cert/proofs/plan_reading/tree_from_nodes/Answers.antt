use Rattle.dm_cert.proofs.Staged.{tree_shown}
use Rattle.dm_cert.proofs.plan_reading.tree_from_nodes.Goals as goal

pub returns-in-Ok : goal.returns-in-Ok
returns-in-Ok c = tree_shown _ _ _ _ _ c.in-Ok.ensures c.tree_of.ensures
