use Rattle.std.proofs.Common.{ℕ, ◌<◌, get_or}
use Rattle.dm_journey.specs.declared.arriving.Journey.{Journey}
use Rattle.dm_journey.proofs.arriving.are_later.Given as goal

abbrev pub invariant-loop-journey : goal.invariant-loop-journey
invariant-loop-journey l = (k : ℕ) (d : Journey) → k < l.journey-index → l.arrival < (get_or l.journeys k d).arrival
