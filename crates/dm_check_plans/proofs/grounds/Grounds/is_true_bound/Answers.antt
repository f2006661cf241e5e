use Rattle.std.proofs.Common.{refl, arith}
use Rattle.dm_check_plans.proofs.Told.{bound_told}
use Rattle.dm_check_plans.proofs.grounds.Grounds.is_true_bound.Goals as goal

pub returns : goal.returns
returns c = λ budget.
    bound_told c.args.self.now.net.now c.args.self.now.rows.now c.args.self.now.penalty budget c.args.problem.now.path c.args.problem.now.timetable.kept.times c.requires.solved.least
    c.args.self.now.plan c.cost.result c.args.cost _ c.cost.ensures (omega arith) refl
