use Rattle.std.proofs.Common.{◌<◌, ◌≤◌, ◌+◌, ◌-◌, arith, length}
use Rattle.std.specs.List.{flat_map, range_with_len}
use Rattle.dm_report.specs.Printed.{mark_text, cancelled_text}
use Rattle.dm_report.proofs.Printed.{printed_none, printed_next, printed_fault, printed_all, range_more, range_end, range_start}
use Rattle.dm_report.proofs.records.put_cancelled.Goals as goal

pub loop-i-init : goal.loop-i-init
unfolding cancelled_text
loop-i-init g c = printed_none _ _ _ _ (range_start (mark_text c.args.net.now c.args.rows.now) (length c.args.net.now.events))

pub loop-i-preserved : goal.loop-i-preserved
loop-i-preserved g c =
    let lt : c.loop-i.i < length c.args.net.now.events = omega (arith, c.loop-i-test.true, c.events-i-end.ensures.count) in
    printed_next (mark_text c.args.net.now c.args.rows.now c.loop-i.i)
    (flat_map (mark_text c.args.net.now c.args.rows.now) (range_with_len (c.loop-i.i + 1) (length c.args.net.now.events - (c.loop-i.i + 1)))) c.loop-i.invariant
    (range_more (mark_text c.args.net.now c.args.rows.now) c.loop-i.i (length c.args.net.now.events) lt) c.in-Ok.ensures

pub returns-in_default : goal.returns-in_default
returns-in_default g c =
    let lt : c.loop-i.i < length c.args.net.now.events = omega (arith, c.loop-i-test.true, c.events-i-end.ensures.count) in
    printed_fault (mark_text c.args.net.now c.args.rows.now c.loop-i.i)
    (flat_map (mark_text c.args.net.now c.args.rows.now) (range_with_len (c.loop-i.i + 1) (length c.args.net.now.events - (c.loop-i.i + 1)))) c.loop-i.invariant
    (range_more (mark_text c.args.net.now c.args.rows.now) c.loop-i.i (length c.args.net.now.events) lt) c.in_default.ensures

pub returns : goal.returns
returns g c =
    let past : length c.args.net.now.events ≤ c.loop-i.i = omega (arith, c.loop-i-test.false, c.events-i-end.ensures.count) in
    printed_all c.loop-i.invariant (range_end (mark_text c.args.net.now c.args.rows.now) c.loop-i.i (length c.args.net.now.events) past)
