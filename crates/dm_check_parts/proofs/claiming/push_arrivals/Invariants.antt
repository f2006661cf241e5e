use Rattle.std.proofs.Common.{◌≡◌, ◌++◌, map, take}
use Rattle.dm_base.specs.declared.ids.EventId.{EventId}
use Rattle.dm_check_parts.proofs.claiming.push_arrivals.Given as goal

abbrev pub invariant-loop-arrival : goal.invariant-loop-arrival
invariant-loop-arrival l = l.ids.items ≡ l.initial.ids.items ++ map (λ (e : EventId). e.0) (take l.arrival-index l.arrivals)
