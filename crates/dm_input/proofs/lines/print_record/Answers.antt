use Rattle.dm_outside.proofs.Printing.{prints_fault, prints_last}
use Rattle.dm_input.proofs.lines.print_record.Goals as goal

pub returns-in_default : goal.returns-in_default
returns-in_default g c = prints_fault _ c.in_default.ensures

pub returns : goal.returns
returns g c = prints_last _ _ _ _ c.in-Ok.ensures c.print_kind.ensures
