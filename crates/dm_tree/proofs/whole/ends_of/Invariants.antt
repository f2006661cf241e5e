use Rattle.std.proofs.Common.{◌≤◌, length}
use Rattle.dm_tree.specs.Inside.Filling.{AreEndsFrom}
use Rattle.dm_tree.proofs.whole.ends_of.Given as goal

abbrev pub invariant-loop-place : goal.invariant-loop-place
invariant-loop-place l = (l.place ≤ length l.nodes) × AreEndsFrom l.place l.nodes l.ends.items
