use Rattle.std.proofs.Common.{[], ◌∷◌, ◌++◌, ap, ◌∙◌}
use Rattle.dm_divide.specs.declared.jobs.Job.{Job}
use Rattle.dm_part_workers.proofs.Settling.{hand_more}
use Rattle.dm_part_workers.proofs.handing.Hand.take_one.Goals as goal

pub returns : goal.returns
returns c =
    hand_more c.args.thief.now c.args.self.now _ c.in-Some.job c.requires c.in-Some.ensures.taken.1
    (c.in_ok-push.ensures.items ∙ ap (λ (j : Job). c.args.self.now.done.items ++ j ∷ []) c.in_ok-solved.ensures)
