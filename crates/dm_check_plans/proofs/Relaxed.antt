-- The relaxed problem of a path has the floors, the spans and the passed events of the rows themselves.
use Rattle.std.proofs.Common.{◌≡◌, ℕ, Bool, List, Option, sym, ap, subst, ◌∙◌, inl, inr, arith}
use Rattle.std.specs.Prelude.{slice_index_or}
use Rattle.dm_network.specs.Net.{Net, activity_at}
use Rattle.dm_network.specs.Held.{arcs_of}
use Rattle.dm_rows.specs.declared.messages.Decision.{Decision}
use Rattle.dm_rows.specs.Rows.{RowsValue}
use Rattle.dm_rows.specs.Cost.{cost_charging}
use Rattle.dm_rows.specs.Decide.{with_decisions}
use Rattle.dm_rows.specs.Laws.{EntersNoPassed}
use Rattle.dm_rows.specs.Relax.{is_relaxed_active, is_relaxed_lost}
use Rattle.dm_rows.specs.Timetable.{MeetsHolding, IsLeastHolding}
use Rattle.dm_rows.proofs.AsGraph.{relaxed_enter_no_passed}
use Rattle.dm_tree.specs.Relaxed.{IsRelaxedLeast, HasNoRelaxedCycle, relaxed_cost_of}
use Rattle.dm_check_plans.specs.RelaxedProblems.{RelaxedProblemValue, HasRelaxedCycle, times_of}
use Rattle.dm_check_plans.proofs.Cycles.{cycle_or_none}
use Rattle.dm_paths.proofs.Setting.{DiffersInDecisions, differs_in_none, differs_with}
use Rattle.dm_paths.proofs.Agreeing.{passed_same, span_same}

differs_back : (rows r : RowsValue) → DiffersInDecisions rows r → DiffersInDecisions r rows
differs_back rows r h = record {
  event_delays = sym h.event_delays;
  act_delays = sym h.act_delays;
  passed = sym h.passed;
  cancelled = sym h.cancelled;
  locked_changes = sym h.locked_changes;
  locked_pairs = sym h.locked_pairs;
  clock = sym h.clock;
  kept = sym h.kept;
  small_first = sym h.small_first;
}

meets_over : (net : Net) (rows r : RowsValue) (held : ℕ → Bool) (x : List ℕ) → DiffersInDecisions rows r → MeetsHolding net rows held x → MeetsHolding net r held x
meets_over net rows r held x over m = record {
  size = m.size;
  passed = λ i t below is. m.passed i t below (sym (passed_same rows r over i) ∙ is);
  above = λ i below is.
      let a = m.above i below (sym (passed_same rows r over i) ∙ is) in
      let e : slice_index_or r.event_delays i 0 ≡ slice_index_or rows.event_delays i 0 = ap (λ (xs : List ℕ). slice_index_or xs i 0) over.event_delays in
      omega arith;
  clock = λ i below is. let c = m.clock i below (sym (passed_same rows r over i) ∙ is) in let e = over.clock in omega arith;
  along = λ a below h. let l = m.along a below h in let s = span_same rows r over net a in omega arith;
}

-- what holds of a problem's path and times, by other names for the problem and the times
pub of_problem : (P : List Decision → List ℕ → Type 0) (inside problem : RelaxedProblemValue) (times : List ℕ) → inside ≡ problem → times ≡ times_of inside → P inside.path times → P problem.path (times_of problem)
of_problem P inside problem times same at holds =
    subst (λ (r : RelaxedProblemValue). P r.path (times_of r)) same (subst (λ (x : List ℕ). P inside.path x) at holds)

least_over : (net : Net) (rows r : RowsValue) (held : ℕ → Bool) (x : List ℕ) → DiffersInDecisions rows r → IsLeastHolding net rows held x → IsLeastHolding net r held x
least_over net rows r held x over least = record {
  meets = meets_over net rows r held x over least.meets;
  earliest = λ y m. least.earliest y (meets_over net r rows held y (differs_back rows r over) m);
}

module _ (net : Net) (rows : RowsValue) (path : List Decision) where
  over_path : DiffersInDecisions rows (with_decisions net rows path)
  over_path = differs_with net rows rows path (differs_in_none rows)

  pub relaxed_least : (x : List ℕ) → IsLeastHolding net rows (is_relaxed_active net rows path) x → IsRelaxedLeast net rows path x
  relaxed_least x = least_over net rows (with_decisions net rows path) (is_relaxed_active net rows path) x over_path

  pub enters_no_passed : EntersNoPassed net rows (is_relaxed_active net rows path)
  enters_no_passed a below h =
      sym (passed_same rows (with_decisions net rows path) over_path (activity_at net a).head) ∙ relaxed_enter_no_passed net rows path a below h

  pub relaxed_cost : (x : List ℕ) (penalty : ℕ) → cost_charging net rows (is_relaxed_lost net rows path) x penalty ≡ relaxed_cost_of net rows path x penalty
  relaxed_cost x penalty =
      let r : RowsValue = with_decisions net rows path in
      let costs : List (Option ℕ) → List ℕ → List Bool → ℕ = λ passed delays cancelled.
      cost_charging net (record rows { passed = passed; act_delays = delays; cancelled = cancelled }) (is_relaxed_lost net rows path) x penalty in
      sym (ap (λ (p : List (Option ℕ)). costs p r.act_delays r.cancelled) over_path.passed
      ∙ ap (λ (d : List ℕ). costs rows.passed d r.cancelled) over_path.act_delays
      ∙ ap (λ (c : List Bool). costs rows.passed rows.act_delays c) over_path.cancelled)

  pub has_cycle : (HasNoRelaxedCycle net rows path → ⊥) → HasRelaxedCycle net rows path
  has_cycle some = elim (cycle_or_none (arcs_of net (is_relaxed_active net rows path))) [
    | inl c ↦ record { cycle = c.cycle; is_cycle = c.is_cycle }
    | inr none ↦ absurd (some none)
  ]
