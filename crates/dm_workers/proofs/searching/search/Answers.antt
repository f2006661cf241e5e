use Rattle.std.proofs.Common.{ℕ, ◌≤◌, sym, subst}
use Rattle.std.proofs.lemmas.Result.{IfOk-weaker}
use Rattle.dm_rows.specs.Active.{HasNoCycle}
use Rattle.dm_tree.specs.Plans.{Task, IsTruePlan}
use Rattle.dm_tree.specs.declared.plans.Plan.{Plan}
use Rattle.dm_team.specs.Found.{IsOwnCost}
use Rattle.dm_workers.proofs.searching.search.Goals as goal

pub search_task-requires-clause-no_cycle : goal.search_task-requires-clause-no_cycle
search_task-requires-clause-no_cycle g c = λ lifetimes bounds. subst (λ (t : Task). HasNoCycle t.net t.rows) (sym c.whole-task.ensures.task) c.requires.no_cycle

pub search_task-requires-clause-some : goal.search_task-requires-clause-some
search_task-requires-clause-some g c = λ lifetimes bounds. subst (λ (t : Task). 1 ≤ t.budget) (sym c.whole-task.ensures.task) c.requires.budget.0

pub returns-clause-plan : goal.returns-clause-plan
returns-clause-plan g c =
    IfOk-weaker _ _ _ (λ p is. subst (λ (t : Task). IsTruePlan t p) c.whole-task.ensures.task is) c.search_task.ensures.plan

pub returns-clause-no_dearer : goal.returns-clause-no_dearer
returns-clause-no_dearer g c =
    IfOk-weaker _ _ _ (λ (p : Plan) low. subst (λ (t : Task). (own : ℕ) → IsOwnCost t own → p.cost ≤ own) c.whole-task.ensures.task low) c.search_task.ensures.no_dearer
