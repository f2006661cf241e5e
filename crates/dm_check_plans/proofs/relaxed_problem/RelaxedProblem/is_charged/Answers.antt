use Rattle.std.proofs.Common.{◌≡◌, false, sym, subst, arith, ◌∙◌}
use Rattle.std.proofs.lemmas.List.{get_or_default}
use Rattle.dm_rows.specs.Relax.{is_relaxed_lost}
use Rattle.dm_check_plans.specs.RelaxedProblems.{RelaxedProblemValue, IsRelaxedProblemOf}
use Rattle.dm_check_plans.proofs.relaxed_problem.RelaxedProblem.is_charged.Goals as goal

pub returns : goal.returns
returns c =
    let net = c.args.net.now in
    let rows = c.args.rows.now in
    let was = subst (IsRelaxedProblemOf net rows) (sym c.self.view_is) c.requires.problem in
    let size = was.charged.size in
    subst (λ (r : RelaxedProblemValue). c.index.result.now ≡ is_relaxed_lost net rows r.path c.args.a) c.self.view_is
    (c.index.ensures ∙ get_or_default c.self.inside.charged.items c.args.a c.index.result.now false (omega (arith, size, c.requires.is_activity)) ∙ was.charged.each c.args.a c.requires.is_activity)
