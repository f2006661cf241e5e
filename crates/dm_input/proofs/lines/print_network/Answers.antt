use Rattle.dm_input.proofs.lines.print_network.Goals as goal

pub returns-in-DoubleActivity : goal.returns-in-DoubleActivity
returns-in-DoubleActivity g c = rw c.in-DoubleActivity.is c.put_number-in-DoubleActivity.ensures

pub returns-in-UnknownEvent : goal.returns-in-UnknownEvent
returns-in-UnknownEvent g c = rw c.in-UnknownEvent.is c.put_number-in-UnknownEvent.ensures

pub returns-in-ZeroHeadway : goal.returns-in-ZeroHeadway
returns-in-ZeroHeadway g c = rw c.in-ZeroHeadway.is c.put_number-in-ZeroHeadway.ensures
