use Rattle.dm_input.proofs.lines.print_start.Goals as goal

pub returns-in-UnknownEvent : goal.returns-in-UnknownEvent
returns-in-UnknownEvent g c = rw c.in-UnknownEvent.is c.put_number.ensures

pub returns-in-UnknownActivity : goal.returns-in-UnknownActivity
returns-in-UnknownActivity g c = rw c.in-UnknownActivity.is c.put_number-in-UnknownActivity.ensures
