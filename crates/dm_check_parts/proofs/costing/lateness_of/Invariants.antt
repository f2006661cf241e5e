use Rattle.std.proofs.Common.{◌*◌, ◌^◌}
use Rattle.dm_base.specs.declared.ids.EventId.{EventId}
use Rattle.dm_base.specs.declared.limits.TheConstants.{WEIGHT}
use Rattle.dm_network.specs.Net.{event_place}
use Rattle.dm_rows.specs.Cost.{event_cost}
use Rattle.dm_parts.specs.Sums.{at_place}
use Rattle.dm_check_parts.proofs.Summed.{IsSumTo}
use Rattle.dm_check_parts.proofs.costing.lateness_of.Given as goal

abbrev pub invariant-loop-id : goal.invariant-loop-id
invariant-loop-id l = IsSumTo (λ (id : EventId). at_place (event_cost l.net l.rows l.times) (event_place l.net id)) l.ids (WEIGHT * 2 ^ 38) l.id-index l.total
