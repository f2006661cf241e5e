use Rattle.std.proofs.Common.{arith}
use Rattle.dm_check.proofs.Timetabled.{timed_none, timed_more, timed_stop, timed_all}
use Rattle.dm_check.proofs.told_records.timetable_told.Goals as goal

pub loop-i-init : goal.loop-i-init
loop-i-init c = timed_none c.args.setting.now.net.now c.args.checked.now.rows c.args.lines.now

pub loop-i-preserved : goal.loop-i-preserved
loop-i-preserved c =
    timed_more c.args.setting.now.net.now c.args.checked.now.rows c.args.lines.now c.loop-i.lines c.event_told.new.lines c.loop-i.i c.loop-i.invariant _ (omega (arith, c.events-i-end.ensures.count)) c.in-Ok.ensures

pub returns-in-Err : goal.returns-in-Err
returns-in-Err c =
    timed_stop c.args.setting.now.net.now c.args.checked.now.rows c.args.lines.now c.loop-i.lines c.event_told.new.lines c.loop-i.i c.loop-i.invariant c.in-Err.fault (omega (arith, c.events-i-end.ensures.count)) c.in-Err.ensures

pub returns : goal.returns
returns c =
    timed_all c.args.setting.now.net.now c.args.checked.now.rows c.args.lines.now c.loop-i.lines c.loop-i.lines c.loop-i.i c.loop-i.invariant (omega (arith, c.events-i-end.ensures.count))
