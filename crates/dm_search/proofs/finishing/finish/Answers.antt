use Rattle.std.proofs.Common.{ℕ, ◌≤◌, sym, subst}
use Rattle.std.proofs.lemmas.Result.{IfOk-weaker}
use Rattle.dm_tree.specs.Plans.{Task, CostsWith, IsTruePlan}
use Rattle.dm_tree.specs.declared.plans.Plan.{Plan}
use Rattle.dm_traverse.specs.Finish.{IsStart}
use Rattle.dm_search.proofs.finishing.finish.Goals as goal

pub finish_task-requires-clause-start : goal.finish_task-requires-clause-start
finish_task-requires-clause-start c =
    subst (λ (t : Task). IsStart t c.args.partial c.args.best.items) (sym c.whole-task.ensures.task) c.requires.start

pub returns-clause-plan : goal.returns-clause-plan
returns-clause-plan c =
    IfOk-weaker _ _ _ (λ p is. subst (λ (t : Task). IsTruePlan t p) c.whole-task.ensures.task is) c.finish_task.ensures.plan

pub returns-clause-cost : goal.returns-clause-cost
returns-clause-cost c =
    IfOk-weaker _ _ _
    (λ (p : Plan) low. subst (λ (t : Task). (k : ℕ) → CostsWith t c.args.best.items k → p.cost ≤ k) c.whole-task.ensures.task low)
    c.finish_task.ensures.cost
