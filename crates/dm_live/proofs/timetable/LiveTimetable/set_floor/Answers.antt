use Rattle.std.proofs.Common.{◌≡◌, true, ◌≤◌, sym, subst, arith, slice_index}
use Rattle.dm_live.specs.Live.{IsLive, LiveValue, is_fixed}
use Rattle.dm_live.proofs.Moves.{floor_moves, floor_rises}
use Rattle.dm_live.proofs.timetable.LiveTimetable.set_floor.Goals as goal

pub returns-then-falls-clause-live : goal.returns-then-falls-clause-live
returns-then-falls-clause-live c =
    floor_moves c.args.net.now (record { given = c.self.inside.constraints; order = c.self.inside.order; times = c.self.inside.times; marks = c.self.inside.marks; fixed = c.self.inside.fixed.items })
    (subst (IsLive c.args.net.now) (sym c.self.view_is) c.requires.live) c.args.i c.args.floor c.requires.is_event
    (subst (λ (v : LiveValue). is_fixed v.fixed c.args.i ≡ true → c.args.floor ≡ slice_index v.given.floors c.args.i) (sym c.self.view_is) c.requires.stays)
    c.set_floor.new.self c.mark.new.self c.set_floor.ensures c.mark.ensures

pub returns-else-late-clause-live : goal.returns-else-late-clause-live
returns-else-late-clause-live c =
    let value = c.floor.ensures.value in
    let not_falls = c.if-falls.false in
    let not_late = c.if-late.false in
    let time = c.time.ensures in
    let rises : slice_index c.args.self.now.given.floors c.args.i ≤ c.args.floor = omega arith in
    let low : c.args.floor ≤ slice_index c.args.self.now.times c.args.i = omega arith in
    floor_rises c.args.net.now (record { given = c.self.inside.constraints; order = c.self.inside.order; times = c.self.inside.times; marks = c.self.inside.marks; fixed = c.self.inside.fixed.items })
    (subst (IsLive c.args.net.now) (sym c.self.view_is) c.requires.live) c.args.i c.args.floor c.requires.is_event
    (subst (λ (v : LiveValue). is_fixed v.fixed c.args.i ≡ true → c.args.floor ≡ slice_index v.given.floors c.args.i) (sym c.self.view_is) c.requires.stays)
    (subst (λ (v : LiveValue). slice_index v.given.floors c.args.i ≤ c.args.floor) (sym c.self.view_is) rises)
    (subst (λ (v : LiveValue). c.args.floor ≤ slice_index v.times c.args.i) (sym c.self.view_is) low)
    c.set_floor.new.self c.set_floor.ensures
