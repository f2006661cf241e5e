use Rattle.dm_journey.specs.Inside.Reaching.{HasReached}
use Rattle.dm_journey.proofs.reaching.reach_all_with.Given as goal

abbrev pub invariant-loop-place : goal.invariant-loop-place
invariant-loop-place g l = HasReached l.net l.usable l.search.ranks l.most l.initial.reached l.reached l.place
