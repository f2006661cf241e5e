use Rattle.std.proofs.Common.{sym, ◌∙◌}
use Rattle.std.proofs.lemmas.List.{nil_from_length}
use Rattle.dm_part_workers.proofs.Putting.{none_put, one_put, all_put}
use Rattle.dm_part_workers.proofs.handing.put_all.Goals as goal

pub loop-job-init : goal.loop-job-init
loop-job-init c = none_put _ _ _ c.into_iter-job-iterator.ensures.into_iter_gives.0

pub loop-job-preserved : goal.loop-job-preserved
loop-job-preserved c = one_put _ _ _ _ _ _ c.in-Some.job c.loop-job.invariant c.in-Some.ensures.steps.0 c.in-Ok.ensures.put

pub returns : goal.returns
returns c = all_put _ _ _ _ c.loop-job.invariant (nil_from_length _ (sym c.loop-job.job-iterator.rest.ok.0 ∙ c.in-None.ensures.steps.0))
