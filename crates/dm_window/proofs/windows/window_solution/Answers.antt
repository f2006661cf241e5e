use Rattle.std.proofs.Common.{◌∙◌}
use Rattle.std.proofs.lemmas.Result.{IfOk-weaker}
use Rattle.dm_stretch.proofs.Beside.{posed_within, solution_within}
use Rattle.dm_window.proofs.windows.window_solution.Goals as goal

pub plan_task-requires-clause-posed : goal.plan_task-requires-clause-posed
plan_task-requires-clause-posed c =
    posed_within _ c.reveal.ensures.network _ c.args.window.now _ _ _ (c.deref.ensures.value ∙ c.in_ok-base.ensures) c.requires.sized c.requires.penalty
    c.requires.budget.1

pub plan_by_parts-requires-clause-posed : goal.plan_by_parts-requires-clause-posed
plan_by_parts-requires-clause-posed c =
    posed_within _ c.reveal.ensures.network _ c.args.window.now _ _ _ (c.deref.ensures.value ∙ c.in_ok-base.ensures) c.requires.sized c.requires.penalty
    c.requires.budget.1

pub returns-clause-plan : goal.returns-clause-plan
returns-clause-plan c =
    IfOk-weaker _ _ _ (λ p is. solution_within _ c.reveal.ensures.network _ c.args.window.now _ _ _ p (c.deref.ensures.value ∙ c.in_ok-base.ensures) is) c.plan_by_parts.ensures.parts
