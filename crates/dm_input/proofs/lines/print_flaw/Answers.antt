use Rattle.dm_input.specs.Lines.{file_text, network_text, start_text}
use Rattle.dm_outside.proofs.Printing.{prints_fault, prints_last}
use Rattle.dm_input.proofs.lines.print_flaw.Goals as goal

pub returns-in_default : goal.returns-in_default
returns-in_default g c = rw c.in-InFile.is (prints_fault (file_text c.in-InFile.why) c.in_default.ensures)

pub returns-in-Ok : goal.returns-in-Ok
returns-in-Ok g c = rw c.in-InFile.is (prints_last _ _ _ _ c.in-Ok.ensures c.print_file.ensures)

pub returns-in_default-put : goal.returns-in_default-put
returns-in_default-put g c = rw c.in-Network.is (prints_fault (network_text c.in-Network.fault) c.in_default-put.ensures)

pub returns-in-Ok-put : goal.returns-in-Ok-put
returns-in-Ok-put g c = rw c.in-Network.is (prints_last _ _ _ _ c.in-Ok-put.ensures c.print_network.ensures)

pub returns-in_default-put-2 : goal.returns-in_default-put-2
returns-in_default-put-2 g c = rw c.in-Start.is (prints_fault (start_text c.in-Start.fault) c.in_default-put-2.ensures)

pub returns-in-Ok-put-2 : goal.returns-in-Ok-put-2
returns-in-Ok-put-2 g c = rw c.in-Start.is (prints_last _ _ _ _ c.in-Ok-put-2.ensures c.print_start.ensures)
