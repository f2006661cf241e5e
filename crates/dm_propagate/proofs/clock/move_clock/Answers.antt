use Rattle.std.proofs.Common.{◌<◌, length, All, arith, subst, sym}
use Rattle.dm_propagate.proofs.AtClock.{floors_from, floors_stay}
use Rattle.dm_schedule.proofs.Standing.{front_events}
use Rattle.dm_propagate.proofs.Raising.{floors_but}
use Rattle.dm_propagate.proofs.clock.move_clock.Goals as goal

pub raise_floors-requires-clause-stand : goal.raise_floors-requires-clause-stand
raise_floors-requires-clause-stand c =
    let value = c.clock-clock.ensures.value in
    rw value (floors_from c.args.day.now.net.now c.args.day.now.rows.now c.args.earlier c.args.priced.now.live.given (omega arith) c.requires.floors)

pub raise_floors-requires-clause-are_events : goal.raise_floors-requires-clause-are_events
raise_floors-requires-clause-are_events c =
    let due = c.scheduled_before-due.result.now in
    subst (All (λ s. s.event < length c.args.day.now.net.now.events)) (sym c.scheduled_before-due.ensures.front)
    (front_events c.args.day.now.net.now c.args.schedule.now c.requires.schedule (length due))

pub raise_floors-requires-clause-others : goal.raise_floors-requires-clause-others
raise_floors-requires-clause-others c =
    let value = c.clock-clock.ensures.value in
    floors_but c.args.day.now.net.now c.args.schedule.now c.requires.schedule c.args.day.now.rows.now c.args.earlier c.args.priced.now.live.given c.scheduled_before-due.result.now
    (omega arith) c.requires.floors c.scheduled_before-due.ensures.front (rw (sym value) c.scheduled_before-due.ensures.rest)

pub set_floors-requires-clause-stay : goal.set_floors-requires-clause-stay
set_floors-requires-clause-stay c =
    floors_stay c.args.day.now.net.now c.args.day.now.rows.now c.args.earlier c.args.priced.now.live.given c.args.priced.now.live.fixed c.requires.fixed c.requires.floors

pub raise_floors-requires-clause-stay : goal.raise_floors-requires-clause-stay
raise_floors-requires-clause-stay c =
    floors_stay c.args.day.now.net.now c.args.day.now.rows.now c.args.earlier c.args.priced.now.live.given c.args.priced.now.live.fixed c.requires.fixed c.requires.floors
