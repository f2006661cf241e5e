use Rattle.std.proofs.Common.{◌<◌, length, All, arith, subst, sym}
use Rattle.dm_schedule.proofs.Standing.{front_events}
use Rattle.dm_check_times.proofs.Agreeing.{moved_all, moved_front}
use Rattle.dm_check_times.proofs.keeping.renew_moved.Goals as goal

pub renew_due-requires-clause-are_events : goal.renew_due-requires-clause-are_events
renew_due-requires-clause-are_events c =
    let due = c.scheduled_before.result.now in
    subst (All (λ s. s.event < length c.args.net.now.events)) (sym c.scheduled_before.ensures.front)
    (front_events c.args.net.now c.args.schedule.now c.requires.schedule (length due))

pub returns-then-clock-clause-renews : goal.returns-then-clock-clause-renews
returns-then-clock-clause-renews c = moved_all c.args.net.now c.args.rows.now c.args.timetable.now c.renew_all.new.timetable c.renew_all.ensures.renews

pub returns-else-clock-clause-renews : goal.returns-else-clock-clause-renews
returns-else-clock-clause-renews c =
    let value = c.clock-clock.ensures.value in
    moved_front c.args.net.now c.args.rows.now c.args.schedule.now c.scheduled_before.result.now c.args.timetable.now c.renew_due.new.timetable c.requires.schedule (omega arith)
    c.scheduled_before.ensures.front (rw (sym value) c.scheduled_before.ensures.rest) c.renew_due.ensures.moves
