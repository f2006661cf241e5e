use Rattle.dm_base.specs.declared.limits.TheConstants.{WEIGHT}
use Rattle.dm_priced.specs.Inside.Adding.{IsTotalOf, misses_at}
use Rattle.dm_priced.proofs.adding.missed_along.Given as goal

abbrev pub invariant-loop-a : goal.invariant-loop-a
invariant-loop-a l =
    IsTotalOf (misses_at l.net l.flags l.constraints.spans l.times) l.row l.a-index WEIGHT l.total
