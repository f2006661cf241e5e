use Rattle.std.proofs.Common.{◌++◌}
use Rattle.std.specs.List.{flat_map}
use Rattle.dm_cert.specs.PlanTexts.{line_end}
use Rattle.dm_cert.specs.RunTexts.{spaced_id}
use Rattle.dm_outside.proofs.Printing.{prints_fault, prints_fault_at, prints_last}
use Rattle.dm_outlook.specs.Texts.{cycle_text}
use Rattle.dm_outlook.proofs.printing.put_cycle.Goals as goal

pub returns-in_default : goal.returns-in_default
unfolding cycle_text
returns-in_default g c = prints_fault (flat_map spaced_id c.args.ids.now ++ line_end) c.in_default.ensures

pub returns-in_default-put_ids : goal.returns-in_default-put_ids
unfolding cycle_text
returns-in_default-put_ids g c = prints_fault_at line_end c.in-Ok.ensures c.in_default-put_ids.ensures

pub returns : goal.returns
unfolding cycle_text
returns g c =
    prints_last c.put_bytes-2.new.sink c.put_bytes-2.new.self (flat_map spaced_id c.args.ids.now ++ line_end) c.put_bytes-2.result c.in-Ok.ensures
    (prints_last c.put_bytes-2.new.sink c.put_bytes-2.new.self line_end c.put_bytes-2.result c.in-Ok-put_ids.ensures c.put_bytes-2.ensures)
