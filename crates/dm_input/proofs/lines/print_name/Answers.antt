use Rattle.dm_input.proofs.lines.print_name.Goals as goal

pub returns-in-Events : goal.returns-in-Events
returns-in-Events g c = rw c.in-Events.is c.print_in_folder.ensures

pub returns-in-Activities : goal.returns-in-Activities
returns-in-Activities g c = rw c.in-Activities.is c.print_in_folder-in-Activities.ensures
