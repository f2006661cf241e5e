use Rattle.std.proofs.Common.{arith}
use Rattle.dm_check_plans.proofs.Told.{other_cost, open_told}
use Rattle.dm_check_plans.proofs.grounds.Grounds.is_true_open.Goals as goal

pub returns-then-cost : goal.returns-then-cost
returns-then-cost c = λ budget.
    other_cost c.args.self.now.net.now c.args.self.now.rows.now c.args.self.now.penalty budget c.args.problem.now.path c.args.problem.now.timetable.kept.times c.requires.solved.least
    c.args.self.now.plan c.cost.result c.args.cost c.cost.ensures (λ e. c.if-cost.true e)

pub returns : goal.returns
returns c = λ budget.
    open_told c.args.self.now.net.now c.args.self.now.rows.now c.args.self.now.penalty budget c.args.problem.now.path c.args.problem.now.timetable.kept.times c.requires.solved.least
    c.args.self.now.plan c.cost.result c.args.cost c.is_any_violated.result c.cost.ensures (omega arith) c.if-cost.false c.is_any_violated.ensures
