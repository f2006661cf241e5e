use Rattle.std.proofs.Common.{length}
use Rattle.dm_base.specs.declared.limits.TheConstants.{WEIGHT}
use Rattle.dm_rows.specs.Cost.{missed_weight}
use Rattle.dm_rows.proofs.Totals.{IsTotalTo}
use Rattle.dm_times.proofs.costing.missed_weights.Given as goal

abbrev pub invariant-loop-a : goal.invariant-loop-a
invariant-loop-a l = IsTotalTo (missed_weight l.net l.rows l.times) (length l.net.activities) (WEIGHT) l.a l.total
