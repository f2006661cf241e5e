use Rattle.std.proofs.Common.{false, Bool, List, [], length, sym, ap, subst, ◌∙◌}
use Rattle.std.proofs.lemmas.List.{length-replicate}
use Rattle.dm_marks.specs.Places.{PlaceSetValue}
use Rattle.dm_rows.specs.Relax.{is_relaxed_active}
use Rattle.dm_check_times.specs.KeptCosts.{IsPricedFor}
use Rattle.dm_paths.specs.Flags.{AreFlags, is_flagged}
use Rattle.dm_check_plans.proofs.Turned.{begins}
use Rattle.dm_check_plans.proofs.relaxed_problem.RelaxedProblem.new.Goals as goal

pub returns-clause-problem : goal.returns-clause-problem
returns-clause-problem c =
    let net = c.args.net.now in
    let rows = c.args.rows.now in
    begins net rows _ _ c.in_ok-charged.charged.items c.in_ok-new.field-0 c.in_ok-kept_cost.kept_cost c.in_ok-new-2.field-0 c.in_ok-changes_of.field-0.items c.new.result.items c.new.ensures.items
    c.in_ok-all_undecided.ensures.changes c.in_ok-all_undecided.ensures.pairs
    c.in_ok-charged.ensures c.in_ok-new.ensures.timetable c.in_ok-new.ensures.rows
    (subst (λ (f : List Bool). AreFlags (is_relaxed_active net rows []) (length net.activities) f) (sym c.in_ok-new.ensures.held) c.in_ok-held.ensures) c.in_ok-kept_cost.ensures.kept
    (subst (λ (f : List Bool). IsPricedFor net rows (is_flagged f) c.in_ok-kept_cost.kept_cost) c.deref.ensures.value c.in_ok-kept_cost.ensures.priced) c.in_ok-changes_of.ensures
    (ap (λ (set : PlaceSetValue). length set.flags) c.in_ok-new-2.ensures ∙ (length-replicate _ false ∙ c.events.ensures.count))
