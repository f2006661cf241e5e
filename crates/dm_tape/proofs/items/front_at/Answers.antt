use Rattle.std.proofs.Common.{subst}
use Rattle.dm_records.specs.Readings.{ReadsItem}
use Rattle.dm_tape.proofs.Steps.{front_read, none_read}
use Rattle.dm_tape.proofs.items.front_at.Goals as goal

pub returns-in-Ok-Some : goal.returns-in-Ok-Some
returns-in-Ok-Some c =
    front_read c.args.lines.now c.next_line.new.self c.in-Some.bytes.now c.in-Ok-Some.front c.in-Some.ensures (subst (ReadsItem 2 c.in-Some.bytes.now) c.in-Ok-Some.field-0-is c.in-Ok-Some.ensures)

pub returns-in-Ok-None : goal.returns-in-Ok-None
returns-in-Ok-None c =
    none_read c.args.lines.now c.next_line.new.self c.line-number.result c.in-Some.bytes.now c.misshapen.result c.line-number.ensures c.in-Some.ensures
    (subst (ReadsItem 2 c.in-Some.bytes.now) c.in-Ok-None.field-0-is c.in-Ok-None.ensures) c.misshapen.ensures
