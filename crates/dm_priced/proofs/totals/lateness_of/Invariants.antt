use Rattle.std.proofs.Common.{◌*◌, ◌^◌, false, length, replicate}
use Rattle.dm_base.specs.declared.limits.TheConstants.{WEIGHT}
use Rattle.dm_priced.specs.Priced.{late_weight}
use Rattle.dm_priced.specs.Inside.Adding.{IsTotalBelow}
use Rattle.dm_priced.proofs.totals.lateness_of.Given as goal

abbrev pub invariant-loop-i : goal.invariant-loop-i
invariant-loop-i l = IsTotalBelow (late_weight l.net (replicate (length l.net.events) false) l.times) l.i (WEIGHT * 2 ^ 38) l.total
