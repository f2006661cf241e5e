use Rattle.dm_part_plans.proofs.Better.{chosen_here}
use Rattle.dm_part_plans.proofs.choosing.cheaper.Goals as goal

pub returns-in-Solved-clause-chosen : goal.returns-in-Solved-clause-chosen
returns-in-Solved-clause-chosen c =
    let t = c.args.task.now in
    let solved = rw c.in-Solved.is at c.in_ok-cost.ensures.outcome in
    chosen_here t.net.now c.reveal.ensures.network t.rows.now t.penalty t.base.now t.budget c.requires.posed
    c.step_along.new.evaluator c.step_along.ensures.evaluator _ c.in-Solved.cost c.in-Solved.choices solved
