use Rattle.std.proofs.Common.{◌≤◌, ℕ, arith}
use Rattle.std.proofs.lemmas.Result.{IfOk-weaker}
use Rattle.dm_tree.specs.declared.plans.Plan.{Plan}
use Rattle.dm_traverse.proofs.Beside.{beside_is_task}
use Rattle.dm_traverse.proofs.Optimal.{chosen}
use Rattle.dm_traverse.proofs.Started.{no_more}
use Rattle.dm_search.proofs.finishing.finish_task.Goals as goal

pub cost_with-requires-clause-list : goal.cost_with-requires-clause-list
cost_with-requires-clause-list c =
    rw c.deref.ensures.value
    (chosen _ (beside_is_task _ _ _ _ _ c.reveal.ensures.network c.requires.posed) _ c.requires.start.choices).0

pub finish_at-requires-clause-costs : goal.finish_at-requires-clause-costs
finish_at-requires-clause-costs c =
    record { no_cycle = c.requires.start.no_cycle_with; cost = rw c.deref.ensures.value at c.in_ok-cost.ensures }

pub returns-clause-cost : goal.returns-clause-cost
returns-clause-cost c =
    IfOk-weaker _ _ _
    (λ (p : Plan) (less : p.cost ≤ c.in_ok-cost.cost). λ k costs.
    within less (no_more _ _ _ _ _ (rw c.deref.ensures.value at c.in_ok-cost.ensures) costs.cost)) c.finish_at.ensures.cost
  where
    within : {a b d : ℕ} → a ≤ b → b ≤ d → a ≤ d
    within x y = omega (arith, x, y)
