use Rattle.std.proofs.Common.{arith}
use Rattle.dm_network.proofs.EventRows.{leads_into, leads_out}
use Rattle.dm_check_times.proofs.Agreeing.{event_renews, around_whole, row_into_whole, row_out_whole}
use Rattle.dm_check_times.proofs.keeping.renew_around.Goals as goal

pub renew_row-requires-clause-row : goal.renew_row-requires-clause-row
renew_row-requires-clause-row c = λ k below. (leads_into c.args.net.now c.args.event k _ c.row_into.ensures below).is_activity

pub renew_row-requires-2-clause-row : goal.renew_row-requires-2-clause-row
renew_row-requires-2-clause-row c = λ k below. (leads_out c.args.net.now c.args.event k _ c.row_out_of.ensures below).is_activity

pub returns-clause-renews : goal.returns-clause-renews
returns-clause-renews c =
    let sizes = c.requires.timetable.room.floors in
    around_whole c.args.net.now c.args.rows.now c.args.event c.args.timetable.now c.renew_event.new.self c.renew_row.new.timetable c.renew_row-2.new.timetable
    (event_renews c.args.net.now c.args.rows.now c.args.event c.args.timetable.now c.renew_event.new.self (omega arith) c.renew_event.ensures.renews)
    (row_into_whole c.args.net.now c.args.rows.now c.args.event _ c.renew_event.new.self c.renew_row.new.timetable c.row_into.ensures c.renew_row.ensures.renews)
    (row_out_whole c.args.net.now c.args.rows.now c.args.event _ c.renew_row.new.timetable c.renew_row-2.new.timetable c.row_out_of.ensures c.renew_row-2.ensures.renews)
