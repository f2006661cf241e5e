use Rattle.std.proofs.Common.{◌≤◌, sym, subst}
use Rattle.std.proofs.lemmas.Result.{IfOk-weaker}
use Rattle.dm_rows.specs.Active.{HasNoCycle}
use Rattle.dm_tree.specs.Plans.{Task, IsTruePlan}
use Rattle.dm_search.proofs.finishing.plan.Goals as goal

pub plan_task-requires-clause-no_cycle : goal.plan_task-requires-clause-no_cycle
plan_task-requires-clause-no_cycle c = subst (λ (t : Task). HasNoCycle t.net t.rows) (sym c.whole.ensures.task) c.requires.no_cycle

pub plan_task-requires-clause-some : goal.plan_task-requires-clause-some
plan_task-requires-clause-some c = subst (λ (t : Task). 1 ≤ t.budget) (sym c.whole.ensures.task) c.requires.budget.0

pub returns-clause-plan : goal.returns-clause-plan
returns-clause-plan c =
    IfOk-weaker _ _ _ (λ p is. subst (λ (t : Task). IsTruePlan t p) c.whole.ensures.task is) c.plan_task.ensures.plan
