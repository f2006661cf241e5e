use Rattle.dm_journey.specs.Inside.Reaching.{IsFromRow, IsReachedAlong}
use Rattle.dm_journey.proofs.reaching.reach_along.Given as goal

abbrev pub invariant-loop-a : goal.invariant-loop-a
invariant-loop-a l = record {
  comes : IsFromRow l.net l.usable l.fn.at_first l.reached l.into l.a-index l.best;
  along : IsReachedAlong l.net l.usable l.most l.fn.at_first l.reached l.into l.a-index l.best;
}
