use Rattle.std.proofs.Common.{◌≡◌, ◌++◌, map, All}
use Rattle.std.specs.Prelude.{IsOk}
use Rattle.dm_crew.specs.Inside.Works.{IsGathered}
use Rattle.dm_crew.proofs.rounds.gather.Given as goal

abbrev pub invariant-loop-work : goal.invariant-loop-work
invariant-loop-work g l =
    record {
      whole : l.yielded ++ l.work-iterator.rest.items ≡ l.fn.works.items;
      jobs : l.jobs.items ≡ map (λ w. w.job) l.yielded;
      all_ok : All (λ w. IsOk w.answer) l.yielded;
      gathered : IsGathered g.P.Seat.base l.fn.main l.main (map (λ w. w.pass) l.yielded);
    }
