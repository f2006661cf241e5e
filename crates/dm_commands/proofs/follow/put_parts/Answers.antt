use Rattle.dm_outside.proofs.Printing.{fault_more}
use Rattle.dm_commands.specs.Followed.{state_text}
use Rattle.dm_commands.proofs.Putting.{puts_five, fault_second, fault_third, fault_fourth}
use Rattle.dm_commands.proofs.follow.put_parts.Goals as goal

pub returns-in_default : goal.returns-in_default
unfolding state_text
returns-in_default g c = fault_more _ c.in_default.ensures

pub returns-in_default-put_tail : goal.returns-in_default-put_tail
unfolding state_text
returns-in_default-put_tail g c = fault_second _ _ _ _ _ _ _ _ c.in-Ok.ensures c.in_default-put_tail.ensures

pub returns-in_default-write_timetable : goal.returns-in_default-write_timetable
unfolding state_text
returns-in_default-write_timetable g c = fault_third _ _ _ _ _ _ _ _ _ _ c.in-Ok.ensures c.in-Ok-put_tail.ensures c.in_default-write_timetable.ensures

pub returns-in_default-write_cancelled : goal.returns-in_default-write_cancelled
unfolding state_text
returns-in_default-write_cancelled g c =
    fault_fourth _ _ _ _ _ _ _ _ _ _ _ _ c.in-Ok.ensures c.in-Ok-put_tail.ensures c.in-Ok-write_timetable.ensures c.in_default-write_cancelled.ensures

pub returns : goal.returns
unfolding state_text
returns g c = puts_five _ _ _ _ _ _ _ _ _ _ _ _ _ _ c.in-Ok.ensures c.in-Ok-put_tail.ensures c.in-Ok-write_timetable.ensures c.in-Ok-write_cancelled.ensures c.put_cost.ensures
