use Rattle.dm_check.proofs.Items.{line_read_as}
use Rattle.dm_check.proofs.told_lines.item_told.Goals as goal

pub returns-in-Ok-Some : goal.returns-in-Ok-Some
returns-in-Ok-Some c = line_read_as c.args.version c.args.lines.now c.next_line.new.self c.in-Some.bytes.now c.in-Ok-Some.value _ c.in-Some.ensures c.in-Ok-Some.ensures c.in-Ok-Some.field-0-is
