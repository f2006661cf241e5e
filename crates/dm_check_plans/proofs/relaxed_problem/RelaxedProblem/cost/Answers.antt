use Rattle.std.proofs.Common.{ℕ, ◌≡◌, List, sym, ap, subst, ◌∙◌}
use Rattle.dm_rows.specs.Cost.{cost_charging}
use Rattle.dm_rows.specs.Relax.{is_relaxed_lost}
use Rattle.dm_check_times.specs.KeptCosts.{IsPricedFor}
use Rattle.dm_tree.specs.Relaxed.{relaxed_cost_of}
use Rattle.dm_paths.specs.Flags.{is_flagged}
use Rattle.dm_check_plans.specs.RelaxedProblems.{RelaxedProblemValue, IsRelaxedProblemOf, IsSolved, times_of}
use Rattle.dm_check_plans.proofs.Relaxed.{relaxed_cost}
use Rattle.dm_check_plans.proofs.Weighed.{charged_alike}
use Rattle.dm_check_plans.proofs.relaxed_problem.RelaxedProblem.cost.Goals as goal

pub returns : goal.returns
returns c =
    let net = c.args.net.now in
    let rows = c.args.rows.now in
    let penalty = c.args.penalty in
    let was = subst (IsRelaxedProblemOf net rows) (sym c.self.view_is) c.requires.problem in
    let solved = subst (IsSolved net rows) (sym c.self.view_is) c.requires.solved in
    let path = c.self.inside.path.items in
    let times = c.self.inside.timetable.kept.times in
    let priced : IsPricedFor net rows (is_relaxed_lost net rows path) c.self.inside.kept_cost =
    charged_alike net rows (is_flagged c.self.inside.charged.items) (is_relaxed_lost net rows path) c.self.inside.kept_cost was.charged.each was.costed.priced in
    subst (λ (r : RelaxedProblemValue). c.cost.result ≡ relaxed_cost_of net rows r.path (times_of r) penalty) c.self.view_is
    (c.cost.ensures rows (is_relaxed_lost net rows path) priced
    ∙ ap (λ (x : List ℕ). cost_charging net rows (is_relaxed_lost net rows path) x penalty) solved.kept
    ∙ relaxed_cost net rows path times penalty)
