use Rattle.std.proofs.Common.{sym, ap, subst}
use Rattle.dm_priced.specs.Priced.{PricedValue}
use Rattle.dm_settle.specs.Constraints.{ConstraintsValue}
use Rattle.dm_propagate.specs.Engine.{FollowsRows}
use Rattle.dm_propagate.specs.Inside.Flags.{flags_of, AreFlagsOf}
use Rattle.dm_propagate.proofs.Following.{follows_least}
use Rattle.dm_propagate.proofs.moving.come_back.Goals as goal

pub returns-clause-least : goal.returns-clause-least
returns-clause-least g c =
    let net = c.args.day.now.net.now in
    let rows = c.args.day.now.rows.now in
    follows_least net rows c.settle.new.self.live c.reveal.ensures.network.formed.ends_are_known c.settle.ensures.priced.live c.settle.ensures.at_rest
    (subst (λ (given : ConstraintsValue). FollowsRows net rows given) (sym (ap (λ (p : PricedValue). p.live.given) c.settle.ensures.unchanged)) c.in-Ok.ensures.follows)

pub returns-clause-flags : goal.returns-clause-flags
returns-clause-flags g c =
    subst (AreFlagsOf c.args.day.now.net.now c.args.day.now.rows.now) (sym (ap flags_of c.settle.ensures.unchanged)) c.turn_to.ensures.flags
