use Rattle.dm_team.proofs.Steps.{none_taken, path_taken}
use Rattle.dm_team.proofs.Stealing.{same_after, taken_same, none_same}
use Rattle.dm_team.proofs.working.Worker.take_all.Goals as goal

pub returns-then-has_ended-clause-works : goal.returns-then-has_ended-clause-works
returns-then-has_ended-clause-works g c = λ given start w. none_taken _ _ _ start given _ _ c.in-None-next.ensures.none (c.loop.invariant.works given start w)

pub loop-preserved-in-None-next : goal.loop-preserved-in-None-next
loop-preserved-in-None-next g c =
    record {
      same = same_after _ _ _ c.loop.invariant.same (none_same _ _ c.in-None-next.ensures.none);
      at = c.loop.invariant.at;
      works = λ given start w. none_taken _ _ _ start given _ _ c.in-None-next.ensures.none (c.loop.invariant.works given start w);
    }

pub loop-preserved : goal.loop-preserved
loop-preserved g c =
    record {
      same = same_after _ _ _ (same_after _ _ _ c.loop.invariant.same (taken_same _ _ _ c.in-Some-next.ensures.taken.1)) c.in_ok-take_on-in-Some-next.ensures.same;
      at = c.take_on.ensures.evaluator;
      works = λ given start w. c.in_ok-take_on-in-Some-next.ensures.works given start (path_taken _ _ _ start given _ _ _ c.in-Some-next.ensures.taken.1 (c.loop.invariant.works given start w));
    }
