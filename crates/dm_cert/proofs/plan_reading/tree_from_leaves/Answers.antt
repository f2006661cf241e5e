use Rattle.std.proofs.Common.{inr}
use Rattle.dm_cert.proofs.Staged.{tree_whole, tree_due, tree_broken}
use Rattle.dm_cert.proofs.plan_reading.tree_from_leaves.Goals as goal

pub returns-in-Whole : goal.returns-in-Whole
returns-in-Whole c = tree_whole _ _ _ _ _ _ _ c.in-Ok.ensures c.in-Whole.is c.tree_of.ensures

pub returns-in-Due : goal.returns-in-Due
returns-in-Due c = inr (tree_due _ _ _ _ _ _ c.in-Ok.ensures c.in-Due.is)

pub returns-in-Broken : goal.returns-in-Broken
returns-in-Broken c = inr (tree_broken _ _ _ _ _ _ c.in-Ok.ensures c.in-Broken.is)
