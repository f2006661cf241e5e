use Rattle.dm_outside.proofs.Printing.{finishes}
use Rattle.dm_outside.proofs.put.put_pieces.Goals as goal

pub returns : goal.returns
returns g c = finishes c.finish.new.sink c.finish.result c.new-page.ensures c.in-Ok.ensures c.finish.ensures
