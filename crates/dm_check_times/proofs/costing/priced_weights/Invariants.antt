use Rattle.std.proofs.Common.{◌*◌, length}
use Rattle.dm_base.specs.declared.limits.TheConstants.{WEIGHT}
use Rattle.dm_rows.specs.Cost.{is_lost_change}
use Rattle.dm_check_times.specs.KeptCosts.{priced_weight}
use Rattle.dm_rows.proofs.Totals.{IsTotalTo}
use Rattle.dm_check_times.proofs.costing.priced_weights.Given as goal

abbrev pub invariant-loop-a : goal.invariant-loop-a
invariant-loop-a l = IsTotalTo (priced_weight l.net l.rows (is_lost_change l.net l.rows) l.times) (length l.net.activities) (2 * WEIGHT) l.a l.total
