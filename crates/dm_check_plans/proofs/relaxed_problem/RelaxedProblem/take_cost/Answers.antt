use Rattle.std.proofs.Common.{List, Bool, sym, subst, ◌∙◌}
use Rattle.dm_check_times.specs.KeptCosts.{IsPricedFor}
use Rattle.dm_paths.specs.Flags.{is_flagged}
use Rattle.dm_check_plans.specs.RelaxedProblems.{IsRelaxedProblemOf}
use Rattle.dm_check_plans.proofs.Turned.{taken}
use Rattle.dm_check_plans.proofs.relaxed_problem.RelaxedProblem.take_cost.Goals as goal

pub bring-requires-clause-priced : goal.bring-requires-clause-priced
bring-requires-clause-priced c = λ yes.
    let was = subst (IsRelaxedProblemOf c.args.net.now c.args.rows.now) (sym c.self.view_is) c.requires.problem in
    subst (λ (f : List Bool). IsPricedFor c.args.net.now c.args.rows.now (is_flagged f) c.self.inside.kept_cost) (sym c.deref.ensures.value) was.costed.priced

pub returns-clause-problem : goal.returns-clause-problem
returns-clause-problem c =
    let was = subst (IsRelaxedProblemOf c.args.net.now c.args.rows.now) (sym c.self.view_is) c.requires.problem in
    taken c.args.net.now c.args.rows.now _ was c.bring.new.self c.bring.new.moved c.bring.ensures.kept
    (subst (λ (f : List Bool). IsPricedFor c.args.net.now c.args.rows.now (is_flagged f) c.bring.new.self) c.deref.ensures.value c.bring.ensures.priced)
    c.bring.ensures.as_many_moved (c.bring.ensures.times ∙ c.times.ensures)
