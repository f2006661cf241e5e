use Rattle.std.proofs.Common.{◌≡◌, ◌≤◌, ◌+◌, length, map, vec_capacity}
use Rattle.dm_rounds.specs.Inside.Jobs.{log_in}
use Rattle.dm_rounds.proofs.ending.logs_of.Given as goal

-- there is room for the logs of the jobs that are left
abbrev pub invariant-loop-job : goal.invariant-loop-job
invariant-loop-job g l = (l.logs.items ≡ map log_in (map (λ b. b.value) l.yielded)) × (length l.logs.items + l.job-iterator.rest.len ≤ vec_capacity l.logs)
