use Rattle.dm_base.specs.declared.limits.TheConstants.{WEIGHT}
use Rattle.dm_priced.specs.Inside.Adding.{IsTotalOf, misses_before, misses_after}
use Rattle.dm_priced.proofs.adding.missed_between.Given as goal

abbrev pub invariant-loop-a : goal.invariant-loop-a
invariant-loop-a l =
    IsTotalOf (misses_before l.net l.flags l.to) l.row l.a-index WEIGHT l.was
    × IsTotalOf (misses_after l.net l.flags l.to) l.row l.a-index WEIGHT l.now
