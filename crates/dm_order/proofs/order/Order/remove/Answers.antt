use Rattle.std.proofs.Common.{◌≡◌, ◌<◌, ap, sym, subst, ◌∙◌, length, List, Bool, false}
use Rattle.std.specs.List.{All}
use Rattle.dm_network.specs.Held.{is_held}
use Rattle.dm_order.specs.Value.{OrderValue}
use Rattle.dm_order.specs.Orders.{IsOrderOf, GoForward}
use Rattle.dm_order.proofs.Changing.{removed_is, fewer_go_forward}
use Rattle.dm_order.proofs.FlagLemmas.{length-set_by}
use Rattle.dm_order.specs.Inside.Flagging.{flagged}
use Rattle.dm_order.proofs.order.Order.remove.Goals as goal

pub returns-clause-held : goal.returns-clause-held
returns-clause-held c = λ a.
    let held_is = ap (λ (o : OrderValue). o.held) c.self.view_is in
    ap (λ (fs : List Bool). is_held fs a) (c.release.ensures.held ∙ ap (λ (fs : List Bool). flagged false fs c.args.arcs.now) held_is)
    ∙ removed_is c.args.self.now.held c.args.arcs.now c.requires a

pub returns-clause-as_many : goal.returns-clause-as_many
returns-clause-as_many c =
    let held_is = ap (λ (o : OrderValue). o.held) c.self.view_is in
    ap length c.release.ensures.held ∙ length-set_by (λ _. false) c.self.inside.flags.held.items c.args.arcs.now ∙ ap length held_is

pub returns-clause-order : goal.returns-clause-order
returns-clause-order c = λ net is.
    let held_is : c.self.inside.flags.held.items ≡ c.args.self.now.held = ap (λ (o : OrderValue). o.held) c.self.view_is in
    let within : All (λ a. a < length c.self.inside.flags.held.items) c.args.arcs.now =
    subst (λ (fs : List Bool). All (λ a. a < length fs) c.args.arcs.now) (sym held_is) c.requires in
    let was = subst (IsOrderOf net) (sym c.self.view_is) is in
    record {
      ranked = was.ranked;
      flag_count = ap length c.release.ensures.held ∙ length-set_by (λ _. false) c.self.inside.flags.held.items c.args.arcs.now ∙ was.flag_count;
      forward = subst (λ (fs : List Bool). GoForward net fs c.self.inside.lists.places.ranks.items) (sym c.release.ensures.held)
          (fewer_go_forward c.self.inside.flags.held.items c.args.arcs.now within net c.self.inside.lists.places.ranks.items was.forward);
    }
