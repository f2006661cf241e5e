use Rattle.std.proofs.Common.{arith}
use Rattle.dm_check_plans.proofs.choices.are_all_different.Goals as goal

pub returns : goal.returns
returns c = λ penalty budget k d lt. c.loop-decision.invariant k d (omega arith)
