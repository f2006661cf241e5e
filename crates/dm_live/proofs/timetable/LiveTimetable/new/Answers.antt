use Rattle.std.proofs.Common.{rules, length, ap, ◌∙◌}
use Rattle.std.proofs.lemmas.List.{length-replicate}
use Rattle.dm_live.proofs.Resting.{alike_has_no_cycle, none_clear, new_live}
use Rattle.dm_live.proofs.timetable.LiveTimetable.new.Goals as goal

pub returns-clause-no_cycle : goal.returns-clause-no_cycle
returns-clause-no_cycle c =
    alike_has_no_cycle c.args.net.now c.align.new.order c.args.constraints c.in_ok-align.ensures.ordered c.in_ok-align.ensures.alike

pub invariant_of-result : goal.invariant_of-result
invariant_of-result c =
    none_clear c.in_ok-marks.marks c.in_ok-placed.placed _ _ (length c.args.net.now.events) c.in_ok-marks.ensures c.in_ok-placed.ensures c.events.ensures.count c.events-3.ensures.count

pub returns-clause-live : goal.returns-clause-live
returns-clause-live c =
    new_live c.args.net.now c.align.new.order c.args.constraints c.in_ok-times.times c.in_ok-marks.marks c.in_ok-fixed.fixed.items _ c.events-2.result c.requires.sized
    c.in_ok-align.ensures.ordered c.in_ok-align.ensures.alike (ap length c.in_ok-times.ensures ∙ length-replicate (length c.args.net.now.events) 0) c.in_ok-marks.ensures c.events.ensures.count (search rules) c.events-2.ensures.count
