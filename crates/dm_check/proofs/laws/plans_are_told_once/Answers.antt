use Rattle.dm_cert.proofs.SpelledPlans.{plan_single}
use Rattle.dm_check.proofs.laws.plans_are_told_once.Goals as goal

pub returns : goal.returns
returns c = plan_single
