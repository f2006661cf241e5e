use Rattle.std.proofs.Common.{length}
use Rattle.dm_base.specs.declared.limits.TheConstants.{WEIGHT}
use Rattle.dm_rows.specs.Cost.{cancelled_weight}
use Rattle.dm_rows.proofs.Totals.{IsTotalTo}
use Rattle.dm_check_times.proofs.costing.cancelled_weights.Given as goal

abbrev pub invariant-loop-i : goal.invariant-loop-i
invariant-loop-i l = IsTotalTo (cancelled_weight l.net l.rows) (length l.net.events) WEIGHT l.i l.total
