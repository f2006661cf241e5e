use Rattle.std.proofs.Common.{[], ◌∷◌, ◌++◌, ap, ◌∙◌, arith}
use Rattle.dm_divide.specs.declared.jobs.Job.{Job}
use Rattle.dm_part_workers.proofs.Emptying.{none_taken, one_taken, none_left, all_left}
use Rattle.dm_part_workers.proofs.handing.take_rest.Goals as goal

pub loop-job-init : goal.loop-job-init
loop-job-init c = none_taken _ _

pub loop-job-preserved : goal.loop-job-preserved
loop-job-preserved c =
    one_taken _ _ _ _ _ _ c.loop-job._job c.in-Some.job c.loop-job.invariant c.in-Some.ensures.taken.1
    (c.in_ok-push.ensures.items ∙ ap (λ (j : Job). c.loop-job.back.items ++ j ∷ []) c.in_ok-solved.ensures)

pub returns-in_default : goal.returns-in_default
returns-in_default c =
    none_left _ _ _ _ _ c.loop-job._job c.requires.none_out c.loop-job.invariant c.in_default.ensures.none.0 c.in_default.ensures.none.1

pub returns : goal.returns
returns c =
    let few = c.requires.few in
    all_left _ _ _ _ _ _ c.loop-job._job c.requires.none_out (omega (arith, few, c.loop-job-test.false)) c.loop-job.invariant
    c.count-left.ensures.same c.count-left.ensures.counted.2
