use Rattle.std.specs.List.{flat_map}
use Rattle.dm_cert.specs.RunTexts.{spaced_id}
use Rattle.dm_outside.proofs.Printing.{prints_fault, prints_last}
use Rattle.dm_report.proofs.answers.put_cycle.Goals as goal

pub returns-in_default : goal.returns-in_default
returns-in_default g c = prints_fault (flat_map spaced_id c.args.ids.now) c.in_default.ensures

pub returns : goal.returns
returns g c = prints_last c.put_ids.new.sink c.put_ids.new.page (flat_map spaced_id c.args.ids.now) c.put_ids.result c.in-Ok.ensures c.put_ids.ensures
