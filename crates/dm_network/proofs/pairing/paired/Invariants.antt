use Rattle.dm_network.proofs.TwoWay.{ArePairedTo}
use Rattle.dm_network.proofs.pairing.paired.Given as goal

abbrev pub invariant-loop-activity : goal.invariant-loop-activity
invariant-loop-activity l = ArePairedTo l.pairs l.fn.activities.items l.activity-index l.activity-items
