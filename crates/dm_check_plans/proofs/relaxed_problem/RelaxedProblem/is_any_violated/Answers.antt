use Rattle.std.proofs.Common.{sym, subst}
use Rattle.dm_check_rows.specs.Claims.{Tells}
use Rattle.dm_check_plans.specs.RelaxedProblems.{IsRelaxedProblemOf}
use Rattle.dm_check_plans.specs.Inside.Violations.{IsSomeViolated}
use Rattle.dm_check_plans.proofs.Relaxed.{of_problem}
use Rattle.dm_check_plans.proofs.relaxed_problem.RelaxedProblem.is_any_violated.Goals as goal

pub returns : goal.returns
returns c =
    let was = subst (IsRelaxedProblemOf c.args.net.now c.args.rows.now) (sym c.self.view_is) c.requires.problem in
    of_problem (λ path x. Tells (IsSomeViolated c.args.net.now c.args.rows.now path x) c.is_any_violated.result) _ _ _ c.self.view_is c.times.ensures
    (c.is_any_violated.ensures c.self.inside.path.items (was.changes, was.pairs))
