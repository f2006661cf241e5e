use Rattle.std.proofs.Common.{arith}
use Rattle.dm_rounds.proofs.ending.logs_of.Goals as goal

pub push_reserved-requires : goal.push_reserved-requires
push_reserved-requires g c = omega (arith, c.loop-job.invariant.1, c.in-Some.ensures.steps.1)
