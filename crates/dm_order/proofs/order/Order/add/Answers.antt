use Rattle.std.proofs.Common.{◌≡◌, Bool, true, List, length, ap, sym, subst, ◌∙◌, arith}
use Rattle.dm_network.specs.Held.{is_held, HasNoCycleOf, IsCycleOf}
use Rattle.dm_order.specs.Value.{OrderValue}
use Rattle.dm_order.specs.Orders.{IsOrderOf, GoForward, held_with}
use Rattle.dm_order.specs.Inside.Flagging.{flagged, taken_back}
use Rattle.dm_order.specs.Inside.Placing.{cycle_in}
use Rattle.dm_order.proofs.FlagLemmas.{length-set_by, taken_back_is}
use Rattle.dm_order.proofs.Changing.{added_is, added_are_held, others_go_forward, no_cycle_alike, cycle_alike, arcs_have_flags, tried_with}
use Rattle.dm_order.proofs.order.Order.add.Goals as goal

pub move_for-requires-clause-flags : goal.move_for-requires-clause-flags
move_for-requires-clause-flags c =
    let was = subst (IsOrderOf c.args.net.now) (sym c.self.view_is) c.requires.network in
    let tried_is = tried_with c.args.arcs.now _ _ _ (c.deref.ensures.value ∙ c.try_with.ensures.tried) c.self.invariant.none_tried in
    ap length tried_is ∙ length-set_by (λ _. true) c.self.inside.flags.held.items c.args.arcs.now ∙ was.flag_count

pub move_for-requires-clause-are_held : goal.move_for-requires-clause-are_held
move_for-requires-clause-are_held c =
    let was = subst (IsOrderOf c.args.net.now) (sym c.self.view_is) c.requires.network in
    let within = arcs_have_flags c.args.net.now _ c.args.arcs.now was c.requires.are_activities in
    let tried_is = tried_with c.args.arcs.now _ _ _ (c.deref.ensures.value ∙ c.try_with.ensures.tried) c.self.invariant.none_tried in
    added_are_held c.self.inside.flags.held.items c.args.arcs.now within c.deref.result.now tried_is

pub move_for-requires-clause-others : goal.move_for-requires-clause-others
move_for-requires-clause-others c =
    let was = subst (IsOrderOf c.args.net.now) (sym c.self.view_is) c.requires.network in
    let within = arcs_have_flags c.args.net.now _ c.args.arcs.now was c.requires.are_activities in
    let tried_is = tried_with c.args.arcs.now _ _ _ (c.deref.ensures.value ∙ c.try_with.ensures.tried) c.self.invariant.none_tried in
    others_go_forward c.self.inside.flags.held.items c.args.arcs.now within c.args.net.now c.deref.result.now c.self.inside.lists.places.ranks.items tried_is was.forward

pub take_back-requires-clause-tried : goal.take_back-requires-clause-tried
take_back-requires-clause-tried c =
    let was = subst (IsOrderOf c.args.net.now) (sym c.self.view_is) c.requires.network in
    let within = arcs_have_flags c.args.net.now _ c.args.arcs.now was c.requires.are_activities in
    λ k d lt.
    let w = within k d lt in
    let n : length c.try_with.new.self.tried.items ≡ length c.self.inside.flags.held.items =
    ap length (tried_with c.args.arcs.now _ _ _ c.try_with.ensures.tried c.self.invariant.none_tried)
    ∙ length-set_by (λ _. true) c.self.inside.flags.held.items c.args.arcs.now in
    omega arith

pub invariant_of-self-in-Err : goal.invariant_of-self-in-Err
invariant_of-self-in-Err c =
    let was = subst (IsOrderOf c.args.net.now) (sym c.self.view_is) c.requires.network in
    let within = arcs_have_flags c.args.net.now _ c.args.arcs.now was c.requires.are_activities in
    let back : c.take_back.new.self.tried.items ≡ c.self.inside.flags.held.items =
    c.take_back.ensures.tried
    ∙ ap (λ (fs : List Bool). taken_back fs c.try_with.new.self.tried.items c.args.arcs.now) c.try_with.ensures.held
    ∙ ap (λ (fs : List Bool). taken_back c.self.inside.flags.held.items fs c.args.arcs.now)
    (tried_with c.args.arcs.now _ _ _ c.try_with.ensures.tried c.self.invariant.none_tried)
    ∙ taken_back_is c.self.inside.flags.held.items c.args.arcs.now within in
    record {
      none_tried = back ∙ sym c.try_with.ensures.held ∙ sym c.take_back.ensures.held;
      room = c.in-Err.ensures.lists.room;
    }

pub returns-in-Ok-clause-order : goal.returns-in-Ok-clause-order
returns-in-Ok-clause-order c =
    let was = subst (IsOrderOf c.args.net.now) (sym c.self.view_is) c.requires.network in
    let within = arcs_have_flags c.args.net.now _ c.args.arcs.now was c.requires.are_activities in
    let tried_is = tried_with c.args.arcs.now _ _ _ (c.deref.ensures.value ∙ c.try_with.ensures.tried) c.self.invariant.none_tried in
    let kept_is : c.keep.new.self.held.items ≡ flagged true c.self.inside.flags.held.items c.args.arcs.now =
    c.keep.ensures.held ∙ ap (λ (fs : List Bool). flagged true fs c.args.arcs.now) c.try_with.ensures.held in
    record {
      ranked = c.in-Ok.ensures.lists.ranked;
      flag_count = ap length kept_is ∙ length-set_by (λ _. true) c.self.inside.flags.held.items c.args.arcs.now ∙ was.flag_count;
      forward = subst (λ (fs : List Bool). GoForward c.args.net.now fs c.move_for.new.self.places.ranks.items) (tried_is ∙ sym kept_is) c.in-Ok.ensures.forward;
    }

pub returns-in-Ok-clause-held : goal.returns-in-Ok-clause-held
returns-in-Ok-clause-held c = λ a.
    let was = subst (IsOrderOf c.args.net.now) (sym c.self.view_is) c.requires.network in
    let within = arcs_have_flags c.args.net.now _ c.args.arcs.now was c.requires.are_activities in
    let kept_is : c.keep.new.self.held.items ≡ flagged true c.self.inside.flags.held.items c.args.arcs.now =
    c.keep.ensures.held ∙ ap (λ (fs : List Bool). flagged true fs c.args.arcs.now) c.try_with.ensures.held in
    let held_is : c.self.inside.flags.held.items ≡ c.args.self.now.held = ap (λ (o : OrderValue). o.held) c.self.view_is in
    ap (λ (fs : List Bool). is_held fs a) kept_is ∙ added_is c.self.inside.flags.held.items c.args.arcs.now within a
    ∙ ap (λ (fs : List Bool). held_with fs c.args.arcs.now a) held_is

pub returns-in-Ok-clause-no_cycle : goal.returns-in-Ok-clause-no_cycle
returns-in-Ok-clause-no_cycle c =
    let within = arcs_have_flags c.args.net.now _ c.args.arcs.now (subst (IsOrderOf c.args.net.now) (sym c.self.view_is) c.requires.network) c.requires.are_activities in
    let tried_is = tried_with c.args.arcs.now _ _ _ (c.deref.ensures.value ∙ c.try_with.ensures.tried) c.self.invariant.none_tried in
    let held_is : c.self.inside.flags.held.items ≡ c.args.self.now.held = ap (λ (o : OrderValue). o.held) c.self.view_is in
    subst (λ (fs : List Bool). HasNoCycleOf c.args.net.now (held_with fs c.args.arcs.now)) held_is
    (no_cycle_alike c.args.net.now (flagged true c.self.inside.flags.held.items c.args.arcs.now) (held_with c.self.inside.flags.held.items c.args.arcs.now)
    c.move_for.new.self.places.ranks.items (added_is c.self.inside.flags.held.items c.args.arcs.now within)
    (subst (λ (fs : List Bool). GoForward c.args.net.now fs c.move_for.new.self.places.ranks.items) tried_is c.in-Ok.ensures.forward))

pub returns-in-Err-clause-cycle : goal.returns-in-Err-clause-cycle
returns-in-Err-clause-cycle c =
    let within = arcs_have_flags c.args.net.now _ c.args.arcs.now (subst (IsOrderOf c.args.net.now) (sym c.self.view_is) c.requires.network) c.requires.are_activities in
    let tried_is = tried_with c.args.arcs.now _ _ _ (c.deref.ensures.value ∙ c.try_with.ensures.tried) c.self.invariant.none_tried in
    let held_is : c.self.inside.flags.held.items ≡ c.args.self.now.held = ap (λ (o : OrderValue). o.held) c.self.view_is in
    subst (λ (fs : List Bool). IsCycleOf c.args.net.now (held_with fs c.args.arcs.now) (cycle_in c.move_for.new.self)) held_is
    (cycle_alike c.args.net.now (flagged true c.self.inside.flags.held.items c.args.arcs.now) (held_with c.self.inside.flags.held.items c.args.arcs.now)
    (cycle_in c.move_for.new.self) (added_is c.self.inside.flags.held.items c.args.arcs.now within)
    (subst (λ (fs : List Bool). IsCycleOf c.args.net.now (is_held fs) (cycle_in c.move_for.new.self)) tried_is c.in-Err.ensures.cycle))
