use Rattle.dm_network.proofs.Resolving.{AreResolvedTo}
use Rattle.dm_network.proofs.records.resolved.Given as goal

abbrev pub invariant-loop-row : goal.invariant-loop-row
invariant-loop-row l = AreResolvedTo l.events l.rows l.row-index l.activities.items
