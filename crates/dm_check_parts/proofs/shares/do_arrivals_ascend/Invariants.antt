use Rattle.std.proofs.Common.{◌≤◌, map}
use Rattle.dm_base.specs.declared.ids.EventId.{EventId}
use Rattle.dm_check_parts.proofs.Rising.{RisesTo}
use Rattle.dm_check_parts.proofs.shares.do_arrivals_ascend.Given as goal

abbrev pub invariant-loop-k : goal.invariant-loop-k
invariant-loop-k l = (1 ≤ l.k) × RisesTo (map (λ (e : EventId). e.0) l.ids) l.k
