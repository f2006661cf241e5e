use Rattle.std.proofs.Common.{◌≡◌, ℕ, ◌<◌, Some, slice_get}
use Rattle.dm_rounds.specs.Inside.Jobs.{HasEnded}
use Rattle.dm_rounds.proofs.ending.have_ended.Given as goal

abbrev pub invariant-loop-job : goal.invariant-loop-job
invariant-loop-job g l = (k : ℕ) (job : _) → k < l.job-index → slice_get l.jobs k ≡ Some job → HasEnded job.value.progress
