use Rattle.std.proofs.Common.{◌≡◌, Bool, List, false, refl, length, sym, subst, arith, slice_index}
use Rattle.std.specs.Prelude.{slice_set}
use Rattle.dm_settle.specs.Constraints.{ConstraintsValue, arcs_given}
use Rattle.dm_live.specs.Live.{IsLive, LiveValue, MarksHeads, IsEnteredByNone}
use Rattle.dm_live.proofs.OutOf.{out_below}
use Rattle.dm_live.proofs.Fixing.{fixed_stays, fixed_moves}
use Rattle.dm_live.proofs.timetable.LiveTimetable.fix.Goals as goal

pub returns-then-differs-clause-live : goal.returns-then-differs-clause-live
returns-then-differs-clause-live g c =
    let heads : MarksHeads (arcs_given c.args.net.now c.self.inside.constraints) c.args.i (slice_set c.self.inside.marks c.args.i false) c.mark_heads.new.marks =
    subst (λ (ms : List Bool). MarksHeads (arcs_given c.args.net.now c.self.inside.constraints) c.args.i ms c.mark_heads.new.marks) c.clear.ensures
    (subst (λ (given : ConstraintsValue). MarksHeads (arcs_given c.args.net.now given) c.args.i c.clear.new.self c.mark_heads.new.marks) c.set_floor.ensures c.mark_heads.ensures.marks) in
    fixed_moves c.args.net.now (record { given = c.self.inside.constraints; order = c.self.inside.order; times = c.self.inside.times; marks = c.self.inside.marks; fixed = c.self.inside.fixed.items })
    (subst (IsLive c.args.net.now) (sym c.self.view_is) c.requires.live) c.args.i c.args.time c.requires.is_event
    (subst (λ (v : LiveValue). IsEnteredByNone c.args.net.now v.given.held c.args.i) (sym c.self.view_is) c.requires.entered)
    c.args.out_of.now c.requires.out_of c.remove.new.self _ (c.remove.ensures.order c.args.net.now (subst (IsLive c.args.net.now) (sym c.self.view_is) c.requires.live).ordered) c.remove.ensures.held refl
    c.mark_heads.new.marks heads c.set_floor.new.self c.set.new.self c.set_floor.ensures c.set.ensures

pub returns-else-differs-clause-live : goal.returns-else-differs-clause-live
returns-else-differs-clause-live g c =
    let time = c.time.ensures in
    let not_differs = c.if-differs.false in
    let same : slice_index c.args.self.now.times c.args.i ≡ c.args.time = first_of (omega arith, grind (arith), search) in
    fixed_stays c.args.net.now (record { given = c.self.inside.constraints; order = c.self.inside.order; times = c.self.inside.times; marks = c.self.inside.marks; fixed = c.self.inside.fixed.items })
    (subst (IsLive c.args.net.now) (sym c.self.view_is) c.requires.live) c.args.i c.args.time c.requires.is_event
    (subst (λ (v : LiveValue). IsEnteredByNone c.args.net.now v.given.held c.args.i) (sym c.self.view_is) c.requires.entered)
    c.args.out_of.now c.requires.out_of c.remove.new.self _ (c.remove.ensures.order c.args.net.now (subst (IsLive c.args.net.now) (sym c.self.view_is) c.requires.live).ordered) c.remove.ensures.held refl
    (subst (λ (v : LiveValue). slice_index v.times c.args.i ≡ c.args.time) (sym c.self.view_is) same)
    c.clear.new.self c.clear.ensures c.set_floor.new.self c.set.new.self c.set_floor.ensures c.set.ensures

pub remove-requires : goal.remove-requires
remove-requires g c =
    out_below c.args.net.now c.args.i c.args.out_of.now c.requires.out_of (length c.self.inside.order.held)
    (sym (subst (IsLive c.args.net.now) (sym c.self.view_is) c.requires.live).ordered.flag_count)
