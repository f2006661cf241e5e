use Rattle.dm_team.proofs.Draining.{Taking}
use Rattle.dm_team.proofs.gathering.drain.Given as goal

abbrev pub invariant-loop-path : goal.invariant-loop-path
invariant-loop-path g l = Taking l.initial.owner l.owner l.initial.given_up.items l.given_up.items l._path
