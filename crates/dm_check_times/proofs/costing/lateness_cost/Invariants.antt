use Rattle.std.proofs.Common.{length, ◌*◌, ◌^◌}
use Rattle.dm_base.specs.declared.limits.TheConstants.{WEIGHT}
use Rattle.dm_rows.specs.Cost.{event_cost}
use Rattle.dm_rows.proofs.Totals.{IsTotalTo}
use Rattle.dm_check_times.proofs.costing.lateness_cost.Given as goal

abbrev pub invariant-loop-i : goal.invariant-loop-i
invariant-loop-i l = IsTotalTo (event_cost l.net l.rows l.times) (length l.net.events) (WEIGHT * 2 ^ 38) l.i l.total
