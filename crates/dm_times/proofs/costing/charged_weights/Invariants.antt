use Rattle.std.proofs.Common.{length}
use Rattle.dm_base.specs.declared.limits.TheConstants.{WEIGHT}
use Rattle.dm_rows.specs.Cost.{charged_weight}
use Rattle.dm_rows.proofs.Totals.{IsTotalTo}
use Rattle.dm_times.proofs.costing.charged_weights.Given as goal

abbrev pub invariant-loop-a : goal.invariant-loop-a
invariant-loop-a g l = IsTotalTo (charged_weight l.net (g.C.Charging.charged l.charging)) (length l.net.activities) (WEIGHT) l.a l.total
