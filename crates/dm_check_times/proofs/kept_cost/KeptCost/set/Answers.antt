use Rattle.std.proofs.Common.{ℕ, ◌+◌, ◌-◌, sym, ap, subst, ◌∙◌, arith, slice_index}
use Rattle.dm_check_times.specs.KeptCosts.{KeptCostValue, IsKeptCostOf}
use Rattle.dm_check_times.proofs.Kept.{sets, enough_weight}
use Rattle.dm_check_times.proofs.kept_cost.KeptCost.set.Goals as goal

pub overflow_sub-self : goal.overflow_sub-self
overflow_sub-self c =
    let part = enough_weight c.args.net.now _ c.args.a c.weight-was.result (subst (IsKeptCostOf c.args.net.now) (sym c.self.view_is) c.requires.kept) c.requires.is_activity
    (c.weight-was.ensures ∙ ap (λ (k : KeptCostValue). slice_index k.weights c.args.a) (sym c.self.view_is)) in
    omega (arith, part)

pub returns-clause-kept : goal.returns-clause-kept
returns-clause-kept c =
    sets c.args.net.now c.reveal.ensures.within _ c.args.a c.args.weight _ (subst (IsKeptCostOf c.args.net.now) (sym c.self.view_is) c.requires.kept) c.requires.is_activity c.requires.small
    (ap (λ (was : ℕ). c.self.inside.penalized + c.args.weight - was) (c.weight-was.ensures ∙ ap (λ (k : KeptCostValue). slice_index k.weights c.args.a) (sym c.self.view_is)))
