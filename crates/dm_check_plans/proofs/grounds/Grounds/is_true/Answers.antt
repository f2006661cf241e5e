use Rattle.std.proofs.Common.{List, subst}
use Rattle.dm_rows.specs.declared.messages.Decision.{Decision}
use Rattle.dm_tree.specs.Plans.{whole_task}
use Rattle.dm_check_rows.specs.Claims.{Tells}
use Rattle.dm_check_plans.specs.Inside.Visiting.{IsTrueNode}
use Rattle.dm_check_plans.proofs.Told.{cycle_told}
use Rattle.dm_check_plans.proofs.grounds.Grounds.is_true.Goals as goal

pub returns-in-Ok-clause-tells : goal.returns-in-Ok-clause-tells
returns-in-Ok-clause-tells c = λ budget.
    subst (λ (p : List Decision). Tells (IsTrueNode (whole_task c.args.self.now.net.now c.args.self.now.rows.now c.args.self.now.penalty budget) c.args.self.now.plan p c.args.node) c.is_true_solved.result)
    c.solve.ensures.path (c.is_true_solved.ensures budget)

pub returns-in-Err-clause-tells : goal.returns-in-Err-clause-tells
returns-in-Err-clause-tells c = λ budget.
    cycle_told c.args.self.now.net.now c.args.self.now.rows.now c.args.self.now.penalty budget c.args.problem.now.path c.reveal.ensures.network c.in-Err.ensures.cyclic
    c.args.self.now.plan c.args.node c.is_cycle.result c.is_cycle.ensures
