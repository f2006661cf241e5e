use Rattle.std.proofs.Common.{ℕ, List, refl, sym, ap, subst, ◌∙◌, arith}
use Rattle.dm_rows.specs.Cost.{event_cost}
use Rattle.dm_check_times.specs.KeptCosts.{IsKeptCostOf, IsLateFor}
use Rattle.dm_check_times.proofs.Kept.{put_lateness, puts, enough}
use Rattle.dm_check_times.proofs.kept_cost.KeptCost.put.Goals as goal

pub overflow_sub-self : goal.overflow_sub-self
overflow_sub-self c =
    let part = enough c.args.net.now c.args.rows.now _ c.args.i c.event_cost-was.result (subst (IsLateFor c.args.net.now c.args.rows.now) (sym c.self.view_is) c.requires.late) c.requires.is_event
    (c.event_cost-was.ensures.cost ∙ ap (λ (x : List ℕ). event_cost c.args.net.now c.args.rows.now x c.args.i) c.deref.ensures.value) in
    omega (arith, part)

pub returns-clause-kept : goal.returns-clause-kept
returns-clause-kept c =
    let late = subst (IsLateFor c.args.net.now c.args.rows.now) (sym c.self.view_is) c.requires.late in
    puts c.args.net.now c.reveal.ensures.within c.args.rows.now _ c.args.i c.args.time _ (subst (IsKeptCostOf c.args.net.now) (sym c.self.view_is) c.requires.kept) c.requires.early
    (put_lateness c.args.net.now c.args.rows.now _ c.args.i c.args.time _ c.event_cost-was.result c.event_cost-now.result _ c.requires.is_event late.lateness
    (c.event_cost-was.ensures.cost ∙ ap (λ (x : List ℕ). event_cost c.args.net.now c.args.rows.now x c.args.i) c.deref.ensures.value)
    (c.event_cost-now.ensures.cost ∙ ap (λ (x : List ℕ). event_cost c.args.net.now c.args.rows.now x c.args.i) c.deref-2.ensures.value) refl)

pub returns-clause-late : goal.returns-clause-late
returns-clause-late c =
    let late = subst (IsLateFor c.args.net.now c.args.rows.now) (sym c.self.view_is) c.requires.late in
    record {
      lateness = put_lateness c.args.net.now c.args.rows.now _ c.args.i c.args.time _ c.event_cost-was.result c.event_cost-now.result _ c.requires.is_event late.lateness
          (c.event_cost-was.ensures.cost ∙ ap (λ (x : List ℕ). event_cost c.args.net.now c.args.rows.now x c.args.i) c.deref.ensures.value)
          (c.event_cost-now.ensures.cost ∙ ap (λ (x : List ℕ). event_cost c.args.net.now c.args.rows.now x c.args.i) c.deref-2.ensures.value) refl;
      cancelled = late.cancelled;
    }
