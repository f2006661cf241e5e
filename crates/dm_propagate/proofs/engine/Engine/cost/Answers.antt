use Rattle.std.proofs.Common.{◌≡◌, sym, subst, ◌∙◌}
use Rattle.dm_rows.specs.Cost.{cost_of, is_lost_change}
use Rattle.dm_priced.proofs.Pricing.{costs_as_charged}
use Rattle.dm_propagate.specs.Engine.{EngineValue, IsEngineOf, times_of}
use Rattle.dm_propagate.proofs.engine.Engine.cost.Goals as goal

pub returns-clause-cost : goal.returns-clause-cost
returns-clause-cost c =
    let net = c.args.net.now in
    let is = subst (IsEngineOf net) (sym c.self.view_is) c.requires.engine in
    subst (λ (engine : EngineValue). c.cost.result ≡ cost_of net engine.rows (times_of engine) c.args.penalty) c.self.view_is
    (c.cost.ensures.cost net is.priced
    ∙ costs_as_charged net c.self.inside.rows (is_lost_change net c.self.inside.rows) c.self.inside.priced c.reveal.ensures.network.formed.ends_are_known is.price
    c.args.penalty)
