use Rattle.std.proofs.Common.{arith, subst, sym}
use Rattle.dm_rows.specs.declared.messages.Flip.{Flip}
use Rattle.dm_check_times.specs.Inside.Agreeing.{Renews, Nowhere, IsDecided}
use Rattle.dm_check_times.specs.Timetables.{FlipsNet}
use Rattle.dm_check_times.proofs.Agreeing.{activity_renews}
use Rattle.dm_check_times.proofs.keeping.renew_flipped.Goals as goal

pub returns-in-Keep-clause-renews : goal.returns-in-Keep-clause-renews
returns-in-Keep-clause-renews c =
    let flags = c.requires.timetable.room.held in
    let sizes = c.requires.timetable.room.spans in
    let within = subst (λ (f : Flip). FlipsNet c.args.net.now f) c.in-Keep.is c.requires.within in
    subst (λ (f : Flip). Renews c.args.net.now c.args.rows.now Nowhere (IsDecided c.args.net.now f) c.args.timetable.now c.renew_activity.new.self) (sym c.in-Keep.is)
    (activity_renews c.args.net.now c.args.rows.now c.in-Keep.act c.args.timetable.now c.renew_activity.new.self (omega (arith, within, flags)) (omega (arith, within, sizes)) c.renew_activity.ensures.renews)

pub returns-in-Drop-clause-renews : goal.returns-in-Drop-clause-renews
returns-in-Drop-clause-renews c =
    let flags = c.requires.timetable.room.held in
    let sizes = c.requires.timetable.room.spans in
    let within = subst (λ (f : Flip). FlipsNet c.args.net.now f) c.in-Drop.is c.requires.within in
    subst (λ (f : Flip). Renews c.args.net.now c.args.rows.now Nowhere (IsDecided c.args.net.now f) c.args.timetable.now c.renew_activity-in-Drop.new.self) (sym c.in-Drop.is)
    (activity_renews c.args.net.now c.args.rows.now c.in-Drop.act c.args.timetable.now c.renew_activity-in-Drop.new.self (omega (arith, within, flags)) (omega (arith, within, sizes)) c.renew_activity-in-Drop.ensures.renews)

pub returns-in-First-clause-renews : goal.returns-in-First-clause-renews
returns-in-First-clause-renews c =
    subst (λ (f : Flip). Renews c.args.net.now c.args.rows.now Nowhere (IsDecided c.args.net.now f) c.args.timetable.now c.renew_pair.new.timetable) (sym c.in-First.is) (c.renew_pair.ensures.renews c.in-First.small)
