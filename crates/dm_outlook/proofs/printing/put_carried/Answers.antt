use Rattle.dm_outside.proofs.Printing.{prints_fault, prints_last}
use Rattle.dm_outlook.specs.Texts.{end_text}
use Rattle.dm_outlook.proofs.printing.put_carried.Goals as goal

pub returns-in_default : goal.returns-in_default
returns-in_default g c = rw c.in-Some.is (prints_fault (end_text c.in-Some.carried) c.in_default.ensures)

pub returns-in-Ok : goal.returns-in-Ok
returns-in-Ok g c =
    rw c.in-Some.is (prints_last c.put_end.new.sink c.put_end.new.page (end_text c.in-Some.carried) c.put_end.result c.in-Ok.ensures c.put_end.ensures)
