use Rattle.std.specs.List.{flat_map}
use Rattle.dm_feed.specs.Lines.{spelling_of_decision}
use Rattle.dm_outside.proofs.Printing.{prints_fault, prints_last}
use Rattle.dm_feed.proofs.printing.put_adopted.Goals as goal

pub returns-in_default : goal.returns-in_default
returns-in_default g c = prints_fault (flat_map spelling_of_decision c.args.decisions.now) c.in_default.ensures

pub returns : goal.returns
returns g c = prints_last c.put_decisions.new.sink c.put_decisions.new.page (flat_map spelling_of_decision c.args.decisions.now) c.put_decisions.result c.in-Ok.ensures c.put_decisions.ensures
