use Rattle.std.proofs.Common.{ℕ, List, ap, ◌∙◌, arith}
use Rattle.dm_check_times.specs.KeptCosts.{KeptCostValue, charges_of, priced_weight}
use Rattle.dm_check_times.proofs.Weighing.{weight_renewed}
use Rattle.dm_check_times.proofs.kept_cost.KeptCost.renew.Goals as goal

pub returns-clause-renews : goal.returns-clause-renews
returns-clause-renews c =
    let net = c.args.net.now in
    let charges = charges_of net c.args.rows.now c.args.charges.now in
    let size = c.requires.kept.weighed.as_many in
    weight_renewed net c.args.rows.now charges c.args.a c.priced_weight-weight.result c.args.self.now c.set.new.self (omega (arith, size, c.requires.is_activity))
    (c.priced_weight-weight.ensures.weight ∙ ap (λ (x : List ℕ). priced_weight net c.args.rows.now charges x c.args.a) (c.deref.ensures.value ∙ ap (λ (k : KeptCostValue). k.times) c.self.view_is))
    c.set.ensures.weights c.set.ensures.times c.set.ensures.late
