use Rattle.std.proofs.Common.{◌≡◌, false, [], ◌∷◌, sym, ap, subst, ◌∙◌, true, arith}
use Rattle.std.specs.Prelude.{slice_set}
use Rattle.dm_network.specs.Net.{activity_at}
use Rattle.dm_network.specs.declared.parts.Activity.{Activity}
use Rattle.dm_network.specs.Held.{is_held, IsCycleOf, HasNoCycleOf}
use Rattle.dm_order.specs.Orders.{held_with}
use Rattle.dm_settle.specs.Constraints.{ConstraintsValue}
use Rattle.dm_live.specs.Live.{IsLive, LiveValue, is_fixed}
use Rattle.dm_live.proofs.Ordering.{cycle_with_one}
use Rattle.dm_live.proofs.Resting.{live_has_no_cycle}
use Rattle.dm_live.proofs.Moves.{hold_moves}
use Rattle.dm_live.proofs.timetable.LiveTimetable.hold.Goals as goal

pub returns-in-Ok-clause-live : goal.returns-in-Ok-clause-live
returns-in-Ok-clause-live c =
    hold_moves c.args.net.now (record { given = c.self.inside.constraints; order = c.self.inside.order; times = c.self.inside.times; marks = c.self.inside.marks; fixed = c.self.inside.fixed.items })
    (subst (IsLive c.args.net.now) (sym c.self.view_is) c.requires.live) c.reveal.ensures.network.formed.ends_are_known c.args.a c.requires.is_activity
    (subst (λ (v : LiveValue). is_fixed v.fixed (activity_at c.args.net.now c.args.a).head ≡ false) (sym c.self.view_is) c.requires.open)
    c.is_fixed-fixed.result
    (c.is_fixed-fixed.ensures ∙ ap (λ (v : Activity). is_fixed c.args.self.now.fixed v.tail) c.activity.ensures
    ∙ ap (λ (v : LiveValue). is_fixed v.fixed (activity_at c.args.net.now c.args.a).tail) (sym c.self.view_is))
    c.add_unless_fixed.new.order c.set_held.new.self c.mark.new.self c.add_unless_fixed.ensures.ordered c.in-Ok.ensures.held c.set_held.ensures
    (c.mark.ensures ∙ ap (λ (v : Activity). slice_set c.self.inside.marks v.head true) c.activity-in-Ok.ensures)

pub returns-in-Ok-clause-no_cycle : goal.returns-in-Ok-clause-no_cycle
returns-in-Ok-clause-no_cycle c =
    subst (λ (v : LiveValue). HasNoCycleOf c.args.net.now (is_held (slice_set v.given.held c.args.a true))) c.self.view_is
    (subst (λ (g : ConstraintsValue). HasNoCycleOf c.args.net.now (is_held g.held)) c.set_held.ensures
    (live_has_no_cycle c.args.net.now
    (record { given = c.set_held.new.self; order = c.add_unless_fixed.new.order; times = c.self.inside.times; marks = c.mark.new.self; fixed = c.self.inside.fixed.items })
    (returns-in-Ok-clause-live c)))

pub returns-in-Err-clause-cycle : goal.returns-in-Err-clause-cycle
returns-in-Err-clause-cycle c =
    let size = c.requires.live.sized.held in
    let lt = c.requires.is_activity in
    cycle_with_one c.args.net.now c.args.self.now.order c.args.self.now.given c.args.self.now.fixed c.requires.live.in_order c.args.a lt (omega arith) c.add_unless_fixed.new.order.cycle
    (subst (λ (v : LiveValue). IsCycleOf c.args.net.now (held_with v.order.held (c.args.a ∷ [])) c.add_unless_fixed.new.order.cycle) c.self.view_is c.in-Err.ensures.cycle)
