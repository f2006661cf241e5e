use Rattle.std.proofs.Common.{◌≡◌, ℕ, ◌+◌, ◌-◌, ◌++◌, length, map, Some, slice_get, All}
use Rattle.dm_crew.specs.Inside.Works.{split_of}
use Rattle.dm_crew.proofs.rounds.share_out.Given as goal

abbrev pub invariant-loop-job : goal.invariant-loop-job
invariant-loop-job g l =
    record {
      whole : l.yielded ++ l.job-iterator.rest.items ≡ l.fn.jobs.items;
      main : l.main ≡ record l.fn.main { room = l.fn.main.room - length l.yielded };
      jobs : map (λ w. w.job) l.works.items ≡ l.yielded;
      passes : All (λ w. w.pass ≡ split_of l.fn.main) l.works.items;
      feeds : (k : ℕ) (w : _) → slice_get l.works.items k ≡ Some w → w.feed ≡ k + 1;
    }
