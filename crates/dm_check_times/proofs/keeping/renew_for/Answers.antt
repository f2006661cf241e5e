use Rattle.std.proofs.Common.{arith, sym, subst}
use Rattle.dm_rows.specs.declared.messages.Change.{Change}
use Rattle.dm_check_times.specs.Timetables.{ChangesNet}
use Rattle.dm_check_times.specs.Inside.Agreeing.{RenewsFor}
use Rattle.dm_check_times.proofs.Agreeing.{event_renews, activity_renews}
use Rattle.dm_check_times.proofs.keeping.renew_for.Goals as goal

pub returns-in-EventDelay-clause-renews : goal.returns-in-EventDelay-clause-renews
returns-in-EventDelay-clause-renews c =
    let sizes = c.requires.timetable.room.floors in
    let within = subst (λ (ch : Change). ChangesNet c.args.net.now ch) c.in-EventDelay.is c.requires.within in
    subst (λ (ch : Change). RenewsFor c.args.net.now c.args.rows.now ch c.args.timetable.now c.renew_event.new.self) (sym c.in-EventDelay.is)
    (event_renews c.args.net.now c.args.rows.now c.in-EventDelay.event c.args.timetable.now c.renew_event.new.self (omega (arith, within, sizes)) c.renew_event.ensures.renews)

pub returns-in-ActDelay-clause-renews : goal.returns-in-ActDelay-clause-renews
returns-in-ActDelay-clause-renews c =
    let flags = c.requires.timetable.room.held in
    let sizes = c.requires.timetable.room.spans in
    let within = subst (λ (ch : Change). ChangesNet c.args.net.now ch) c.in-ActDelay.is c.requires.within in
    subst (λ (ch : Change). RenewsFor c.args.net.now c.args.rows.now ch c.args.timetable.now c.renew_activity.new.self) (sym c.in-ActDelay.is)
    (activity_renews c.args.net.now c.args.rows.now c.in-ActDelay.act c.args.timetable.now c.renew_activity.new.self (omega (arith, within, flags)) (omega (arith, within, sizes)) c.renew_activity.ensures.renews)

pub returns-in-Passed-clause-renews : goal.returns-in-Passed-clause-renews
returns-in-Passed-clause-renews c =
    subst (λ (ch : Change). RenewsFor c.args.net.now c.args.rows.now ch c.args.timetable.now c.renew_around.new.timetable) (sym c.in-Passed.is) c.renew_around.ensures.renews

pub returns-in-Recalled-clause-renews : goal.returns-in-Recalled-clause-renews
returns-in-Recalled-clause-renews c =
    subst (λ (ch : Change). RenewsFor c.args.net.now c.args.rows.now ch c.args.timetable.now c.renew_around-in-Recalled.new.timetable) (sym c.in-Recalled.is) c.renew_around-in-Recalled.ensures.renews

pub returns-in-Flipped-clause-renews : goal.returns-in-Flipped-clause-renews
returns-in-Flipped-clause-renews c =
    subst (λ (ch : Change). RenewsFor c.args.net.now c.args.rows.now ch c.args.timetable.now c.renew_flipped.new.timetable) (sym c.in-Flipped.is) c.renew_flipped.ensures.renews

pub returns-in-Clock-clause-renews : goal.returns-in-Clock-clause-renews
returns-in-Clock-clause-renews c =
    subst (λ (ch : Change). RenewsFor c.args.net.now c.args.rows.now ch c.args.timetable.now c.renew_clock.new.timetable) (sym c.in-Clock.is) c.renew_clock.ensures.moves
