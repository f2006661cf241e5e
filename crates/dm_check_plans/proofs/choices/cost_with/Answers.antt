use Rattle.dm_check_plans.proofs.Chosen.{costs_told}
use Rattle.dm_check_plans.proofs.choices.cost_with.Goals as goal

pub returns-in-Ok-fill-clause-tells : goal.returns-in-Ok-fill-clause-tells
returns-in-Ok-fill-clause-tells c = λ budget.
    costs_told c.args.net.now c.args.rows.now c.args.penalty budget c.args.decisions.now c.args.cost c.in-Ok.set c.in-Ok.ensures.set
    c.in-Ok-fill.ensures.settled.no_cycle c.is_cost_of.result c.is_cost_of.ensures
