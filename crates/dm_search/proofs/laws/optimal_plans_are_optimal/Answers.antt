use Rattle.dm_traverse.proofs.Optimal.{optimal_plans_are_optimal}
use Rattle.dm_search.proofs.laws.optimal_plans_are_optimal.Goals as goal

pub returns : goal.returns
returns c = optimal_plans_are_optimal
