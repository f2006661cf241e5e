use Rattle.dm_outside.proofs.Printing.{prints_fault, prints_last}
use Rattle.dm_outlook.specs.Texts.{carried_text}
use Rattle.dm_outlook.proofs.printing.put_told.Goals as goal

pub returns-in_default : goal.returns-in_default
returns-in_default g c = prints_fault (carried_text c.args.last c.args.outlook.now.carried) c.in_default.ensures

pub returns : goal.returns
returns g c =
    prints_last c.put_carried.new.sink c.put_carried.new.page (carried_text c.args.last c.args.outlook.now.carried) c.put_carried.result c.in-Ok.ensures
    c.put_carried.ensures
