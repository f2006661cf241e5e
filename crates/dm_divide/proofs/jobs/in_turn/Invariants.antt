use Rattle.std.specs.Prelude.{◌≡◌, ◌++◌}
use Rattle.dm_divide.proofs.jobs.in_turn.Given as goal

abbrev pub invariant-loop-job : goal.invariant-loop-job
invariant-loop-job l = l.back.items ++ l.job-iterator.rest.items ≡ l.fn.jobs.items
