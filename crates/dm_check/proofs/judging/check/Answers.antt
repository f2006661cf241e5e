use Rattle.dm_check.proofs.Truth.BothWays.{good_exactly}
use Rattle.dm_check.proofs.judging.check.Goals as goal

pub returns-in-Ok-clause-good : goal.returns-in-Ok-clause-good
returns-in-Ok-clause-good c =
    good_exactly c.args.net.now c.args.start.now c.args.penalty c.args.plans c.args.text.now c.reveal.ensures.network c.reveal.ensures.within c.reveal.ensures.ids c.is_within_limits.ensures.limits c.requires.penalty c.in-Ok.verdict c.in-Ok.ensures
