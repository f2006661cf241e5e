use Rattle.dm_times.specs.Inside.Filling.{ActivitiesTo}
use Rattle.dm_times.proofs.filling.set_activities.Given as goal

abbrev pub invariant-loop-a : goal.invariant-loop-a
invariant-loop-a g l =
    ActivitiesTo l.net l.rows (g.H.Holding.held l.holding) l.a l.initial.constraints l.constraints
