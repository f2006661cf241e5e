use Rattle.dm_outside.proofs.Printing.{finishes, unfinished}
use Rattle.dm_commands.proofs.journey.put_journeys.Goals as goal

pub returns : goal.returns
returns g c = finishes _ c.finish.result c.new-page.ensures c.in-Ok.ensures c.finish.ensures

pub returns-in_default : goal.returns-in_default
returns-in_default g c = unfinished c.new-page.ensures c.in_default.ensures
