use Rattle.std.proofs.Common.{arith, subst, ℕ, ◌≡◌, length}
use Rattle.dm_check_times.specs.Inside.Agreeing.{Renews, Nowhere, Below}
use Rattle.dm_check_times.proofs.Agreeing.{below_none, below_more}
use Rattle.dm_check_times.proofs.keeping.renew_all.Goals as goal

pub loop-event-init : goal.loop-event-init
loop-event-init c = record { timetable = c.requires.timetable; renews = below_none c.args.net.now c.args.rows.now c.args.timetable.now }

pub loop-event-preserved : goal.loop-event-preserved
loop-event-preserved c =
    let had = c.loop-event.invariant in
    let sizes = had.timetable.room.floors in
    record {
      timetable = c.renew_event.ensures.timetable;
      renews = below_more c.args.net.now c.args.rows.now c.loop-event.event c.args.timetable.now c.loop-event.timetable c.renew_event.new.self (omega arith) had.renews c.renew_event.ensures.renews;
    }

pub returns-clause-renews : goal.returns-clause-renews
returns-clause-renews c =
    let over : c.loop-event.event ≡ length c.args.net.now.events = omega (arith, c.events-event-end.ensures.count) in
    subst (λ (n : ℕ). Renews c.args.net.now c.args.rows.now (Below n) Nowhere c.args.timetable.now c.loop-event.timetable) over c.loop-event.invariant.renews
