use Rattle.std.proofs.Common.{List, ℕ, sym, ap, subst, ◌∙◌}
use Rattle.dm_rows.specs.Relax.{is_relaxed_active}
use Rattle.dm_rows.specs.declared.messages.Decision.{Decision}
use Rattle.dm_check_times.specs.Binding.{AreBelowLimit}
use Rattle.dm_tree.specs.Relaxed.{IsRelaxedLeast, HasNoRelaxedCycle}
use Rattle.dm_check_plans.specs.RelaxedProblems.{RelaxedProblemValue, IsRelaxedProblemOf, HasRelaxedCycle, times_of}
use Rattle.dm_check_plans.proofs.Relaxed.{relaxed_least, enters_no_passed, has_cycle}
use Rattle.dm_check_plans.proofs.Turned.{settled_again}
use Rattle.dm_check_plans.proofs.relaxed_problem.RelaxedProblem.solve.Goals as goal

pub take_cost-requires-clause-problem : goal.take_cost-requires-clause-problem
take_cost-requires-clause-problem c =
    let was = subst (IsRelaxedProblemOf c.args.net.now c.args.rows.now) (sym c.self.view_is) c.requires.problem in
    settled_again c.args.net.now c.args.rows.now _ was
    c.settle.new.self c.self.inside.kept_cost c.settle.new.moved c.self.inside.is_noted c.settle.ensures.timetable c.settle.ensures.held c.settle.ensures.keeps was.costed.cost was.costed.priced
    c.settle.ensures.as_many_moved (λ yes. c.in-Ok.ensures.notes.noted c.self.inside.kept_cost.times (was.costed.noted yes))

pub returns-in-Ok-clause-solved : goal.returns-in-Ok-clause-solved
returns-in-Ok-clause-solved c =
    let net = c.args.net.now in
    let rows = c.args.rows.now in
    let was = subst (IsRelaxedProblemOf net rows) (sym c.self.view_is) c.requires.problem in
    let path = c.self.inside.path.items in
    record {
      least = subst (λ (p : List Decision). IsRelaxedLeast net rows p (times_of c.take_cost.new.self)) (sym c.take_cost.ensures.path) (subst (λ (x : List ℕ). IsRelaxedLeast net rows path x) (sym c.take_cost.ensures.times)
          (relaxed_least net rows path c.settle.new.self.kept.times (c.in-Ok.ensures.least (is_relaxed_active net rows path) was.held.each (enters_no_passed net rows path))));
      no_cycle = subst (λ (p : List Decision). HasNoRelaxedCycle net rows p) (sym c.take_cost.ensures.path) (c.in-Ok.ensures.none (is_relaxed_active net rows path) was.held.each);
      below = subst (λ (x : List ℕ). AreBelowLimit x) (sym c.take_cost.ensures.times) c.in-Ok.ensures.early;
      kept = c.take_cost.ensures.kept ∙ sym c.take_cost.ensures.times;
    }

pub returns-in-Err-clause-problem : goal.returns-in-Err-clause-problem
returns-in-Err-clause-problem c =
    let was = subst (IsRelaxedProblemOf c.args.net.now c.args.rows.now) (sym c.self.view_is) c.requires.problem in
    settled_again c.args.net.now c.args.rows.now _ was
    c.settle.new.self c.self.inside.kept_cost c.settle.new.moved _ c.settle.ensures.timetable c.settle.ensures.held c.settle.ensures.keeps was.costed.cost was.costed.priced
    c.settle.ensures.as_many_moved (λ no. absurd cc)

pub returns-in-Err-clause-cyclic : goal.returns-in-Err-clause-cyclic
returns-in-Err-clause-cyclic c =
    let was = subst (IsRelaxedProblemOf c.args.net.now c.args.rows.now) (sym c.self.view_is) c.requires.problem in
    subst (λ (p : List Decision). HasRelaxedCycle c.args.net.now c.args.rows.now p) (ap (λ (r : RelaxedProblemValue). r.path) c.self.view_is)
    (has_cycle c.args.net.now c.args.rows.now _ (c.in-Err.ensures.cyclic (is_relaxed_active c.args.net.now c.args.rows.now c.self.inside.path.items) was.held.each))
