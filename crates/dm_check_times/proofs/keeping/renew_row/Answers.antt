use Rattle.std.proofs.Common.{ℕ, ◌≡◌, length, arith, subst}
use Rattle.dm_check_times.specs.Inside.Agreeing.{Renews, Nowhere, InRow}
use Rattle.dm_check_times.proofs.Agreeing.{row_none, row_more, activity_renews}
use Rattle.dm_check_times.proofs.keeping.renew_row.Goals as goal

pub loop-a-init : goal.loop-a-init
loop-a-init c = record { timetable = c.requires.timetable; renews = row_none c.args.net.now c.args.rows.now _ c.args.timetable.now }

pub loop-a-preserved : goal.loop-a-preserved
loop-a-preserved c =
    let had = c.loop-a.invariant in
    let is_activity = c.requires.row c.loop-a.a-index (omega arith) in
    let flags = had.timetable.room.held in
    let sizes = had.timetable.room.spans in
    record {
      timetable = c.renew_activity.ensures.timetable;
      renews = row_more c.args.net.now c.args.rows.now _ c.loop-a.a-index c.args.timetable.now c.loop-a.timetable c.renew_activity.new.self had.renews
          (activity_renews c.args.net.now c.args.rows.now _ c.loop-a.timetable c.renew_activity.new.self (omega (arith, is_activity, flags)) (omega (arith, is_activity, sizes)) c.renew_activity.ensures.renews);
    }

pub returns-clause-renews : goal.returns-clause-renews
returns-clause-renews c =
    let over : c.loop-a.a-index ≡ length c.args.row.now = omega arith in
    subst (λ (n : ℕ). Renews c.args.net.now c.args.rows.now Nowhere (InRow c.args.row.now n) c.args.timetable.now c.loop-a.timetable) over c.loop-a.invariant.renews
