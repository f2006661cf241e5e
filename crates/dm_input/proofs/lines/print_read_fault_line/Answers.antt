use Rattle.dm_input.specs.Lines.{line_end}
use Rattle.dm_outside.proofs.Printing.{prints_fault, prints_fault_at, prints_last}
use Rattle.dm_input.proofs.lines.print_read_fault_line.Goals as goal

pub returns-in_default : goal.returns-in_default
returns-in_default g c = prints_fault _ c.in_default.ensures

pub returns-in_default-print_name : goal.returns-in_default-print_name
returns-in_default-print_name g c = prints_fault_at line_end c.in-Ok.ensures c.in_default-print_name.ensures

pub returns : goal.returns
returns g c = prints_last _ _ _ _ c.in-Ok.ensures (prints_last _ _ _ _ c.in-Ok-print_name.ensures c.put-2.ensures)
