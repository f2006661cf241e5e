use Rattle.std.proofs.Common.{◌≡◌, ◌++◌, length}
use Rattle.dm_crew.specs.Inside.Works.{AreWorkedEach}
use Rattle.dm_crew.proofs.rounds.Crew.work_one_by_one.Given as goal

abbrev pub invariant-loop-work : goal.invariant-loop-work
invariant-loop-work g l =
    record {
      whole : l.yielded ++ l.work-iterator.rest.items ≡ l.fn.works.items;
      many : length l.done.items ≡ length l.yielded;
      each : AreWorkedEach g.S.Source.left g.S.Source.is_sound l.fn.self.plans g.P.Seat.base l.fn.self.batch l.yielded l.done.items;
    }
