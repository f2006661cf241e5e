use Rattle.std.proofs.Common.{◌≡◌, ◌+◌, ◌^◌, ◌≤◌, length, sym, ap, subst}
use Rattle.dm_network.specs.Net.{Net}
use Rattle.dm_tree.specs.Plans.{Task, IsTruePlan}
use Rattle.dm_parts.specs.Sizes.{most_ids}
use Rattle.dm_part_plans.specs.Terms.{terms_of}
use Rattle.dm_find.proofs.Solving.{solves, no_dearer}
use Rattle.dm_find.proofs.finding.solve.Goals as goal

pub solve_task-requires-clause-plan : goal.solve_task-requires-clause-plan
solve_task-requires-clause-plan g c = λ lives outlives. subst (λ (t : Task). IsTruePlan t c.in-Ok.plan) (sym c.whole-task.ensures.task) c.in-Ok.ensures.plan

pub returns-clause-solves : goal.returns-clause-solves
returns-clause-solves g c =
    solves _ _ _ _ _ _ c.solve_task.result c.whole-task.ensures.task c.in-Ok.ensures.entry c.solve_task.ensures.parts c.solve_task.ensures.entry c.solve_task.ensures.few_ids

pub returns-clause-no_dearer : goal.returns-clause-no_dearer
returns-clause-no_dearer g c = no_dearer _ _ _ c.in-Ok.plan.cost c.solve_task.result c.solve_task.ensures.no_dearer c.in-Ok.ensures.no_dearer

pub returns-clause-enough : goal.returns-clause-enough
returns-clause-enough g c = λ terms nodes.
    let net : c.whole-task.result.net.now ≡ c.args.request.now.net.now = ap (λ (t : Task). t.net) c.whole-task.ensures.task in
    c.solve_task.ensures.enough (subst (λ (n : Net). terms_of n ≤ most_ids) (sym net) terms)
    (subst (λ (t : Task). 2 ^ (length t.allowed + 1) ≤ t.budget + 1) (sym c.whole-task.ensures.task) nodes)
