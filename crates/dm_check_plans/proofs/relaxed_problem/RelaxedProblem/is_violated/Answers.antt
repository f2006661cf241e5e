use Rattle.std.proofs.Common.{IsTrue, sym, subst}
use Rattle.std.specs.Prelude.{◌↔◌}
use Rattle.dm_tree.specs.Relaxed.{IsViolated}
use Rattle.dm_check_plans.specs.RelaxedProblems.{IsRelaxedProblemOf}
use Rattle.dm_check_plans.proofs.Relaxed.{of_problem}
use Rattle.dm_check_plans.proofs.relaxed_problem.RelaxedProblem.is_violated.Goals as goal

pub returns : goal.returns
returns c =
    let was = subst (IsRelaxedProblemOf c.args.net.now c.args.rows.now) (sym c.self.view_is) c.requires.problem in
    of_problem (λ path x. IsTrue c.is_violated.result ↔ IsViolated c.args.net.now c.args.rows.now path x c.args.choice) _ _ _ c.self.view_is c.times.ensures
    (c.is_violated.ensures c.self.inside.path.items (was.changes, was.pairs))
