use Rattle.std.proofs.Common.{sym, subst}
use Rattle.dm_tree.specs.Plans.{Task, IsTruePlan}
use Rattle.dm_text_cases.proofs.Solving.{solves}
use Rattle.dm_text_cases.proofs.feeding.solved.Goals as goal

pub plan_by_parts-requires-clause-plan : goal.plan_by_parts-requires-clause-plan
plan_by_parts-requires-clause-plan c = subst (λ (t : Task). IsTruePlan t c.in-Ok.plan) (sym c.whole-task.ensures.task) c.in-Ok.ensures.plan

pub returns : goal.returns
returns c =
    solves _ _ _ _ _ _ c.plan_by_parts.result c.whole-task.ensures.task c.in-Ok.ensures.entry c.plan_by_parts.ensures.parts c.plan_by_parts.ensures.entry c.plan_by_parts.ensures.few_ids
