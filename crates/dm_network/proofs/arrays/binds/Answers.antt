use Rattle.std.proofs.Common.{rules}
use Rattle.dm_network.proofs.arrays.binds.Goals as goal

pub bounds-pairs-p : goal.bounds-pairs-p
bounds-pairs-p c = (c.requires c.in-Some.p c.in-Some.is).0

pub offset_bounds-pairs-p : goal.offset_bounds-pairs-p
offset_bounds-pairs-p c = let lt = (c.requires c.in-Some.p c.in-Some.is).0 in search rules
