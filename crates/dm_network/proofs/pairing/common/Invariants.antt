use Rattle.dm_network.proofs.TwoWay.{AreCommonTo}
use Rattle.dm_network.proofs.pairing.common.Given as goal

abbrev pub invariant-loop-p : goal.invariant-loop-p
invariant-loop-p l = AreCommonTo l.upward l.downward l.p-index l.pairs.items
