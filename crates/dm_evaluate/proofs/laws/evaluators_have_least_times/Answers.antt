use Rattle.dm_evaluate.proofs.Decided.{evaluator_least}
use Rattle.dm_evaluate.proofs.laws.evaluators_have_least_times.Goals as goal

pub returns : goal.returns
returns c net evaluator known is = evaluator_least net evaluator known is
