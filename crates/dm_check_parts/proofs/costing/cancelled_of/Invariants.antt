use Rattle.dm_base.specs.declared.ids.EventId.{EventId}
use Rattle.dm_base.specs.declared.limits.TheConstants.{WEIGHT}
use Rattle.dm_network.specs.Net.{event_place}
use Rattle.dm_rows.specs.Cost.{cancelled_weight}
use Rattle.dm_parts.specs.Sums.{at_place}
use Rattle.dm_check_parts.proofs.Summed.{IsSumTo}
use Rattle.dm_check_parts.proofs.costing.cancelled_of.Given as goal

abbrev pub invariant-loop-id : goal.invariant-loop-id
invariant-loop-id l = IsSumTo (λ (id : EventId). at_place (cancelled_weight l.net l.rows) (event_place l.net id)) l.ids WEIGHT l.id-index l.total
