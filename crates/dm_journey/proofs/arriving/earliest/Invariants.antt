use Rattle.dm_journey.specs.Inside.Arriving.{IsEarliestOf}
use Rattle.dm_journey.proofs.arriving.earliest.Given as goal

abbrev pub invariant-loop-e : goal.invariant-loop-e
invariant-loop-e l = IsEarliestOf l.net l.reached l.times l.changes l.e-items l.e-index l.best
