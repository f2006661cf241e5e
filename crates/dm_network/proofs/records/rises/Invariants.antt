use Rattle.std.proofs.Common.{map}
use Rattle.dm_network.proofs.Doubles.{RisesTo}
use Rattle.dm_network.proofs.records.rises.Given as goal

abbrev pub invariant-loop-item : goal.invariant-loop-item
invariant-loop-item g l = RisesTo (map g.T.Numbered.number l.items) l.item-index l.least
