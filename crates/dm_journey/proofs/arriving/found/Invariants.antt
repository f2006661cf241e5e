use Rattle.dm_journey.specs.Inside.Arriving.{AreFound}
use Rattle.dm_journey.proofs.arriving.found.Given as goal

abbrev pub invariant-loop-changes : goal.invariant-loop-changes
invariant-loop-changes l = AreFound l.net l.times l.to l.search.ranks l.reached l.changes l.journeys.items
