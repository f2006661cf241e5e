use Rattle.dm_outside.proofs.Printing.{finishes}
use Rattle.dm_cert.proofs.solved_text.print_solved.Goals as goal

pub returns : goal.returns
returns g c = finishes c.finish.new.sink c.finish.result c.new-page.ensures c.in-Ok.ensures.text c.finish.ensures
