use Rattle.std.proofs.Common.{◌++◌}
use Rattle.std.specs.Fmt.{decimal}
use Rattle.dm_feed.specs.Lines.{spelling_of_message}
use Rattle.dm_cert.specs.PlanTexts.{line_end}
use Rattle.dm_cert.specs.RunTexts.{entry_text}
use Rattle.dm_outside.proofs.Printing.{prints_fault, prints_fault_at, prints_last}
use Rattle.dm_report.proofs.Printed.{breaks_as, prints_last_as, entry_parts}
use Rattle.dm_report.proofs.records.put_entry.Goals as goal

pub returns-in_default : goal.returns-in_default
unfolding entry_text
returns-in_default g c =
    breaks_as (entry_parts (decimal c.args.number) (decimal c.args.entry.now.feed) (decimal c.args.entry.now.line) (spelling_of_message c.args.entry.now.message))
    (prints_fault (spelling_of_message c.args.entry.now.message ++ line_end) c.in_default.ensures)

pub returns-in_default-put_message : goal.returns-in_default-put_message
unfolding entry_text
returns-in_default-put_message g c =
    breaks_as (entry_parts (decimal c.args.number) (decimal c.args.entry.now.feed) (decimal c.args.entry.now.line) (spelling_of_message c.args.entry.now.message))
    (prints_fault_at line_end c.in-Ok.ensures c.in_default-put_message.ensures)

pub returns : goal.returns
unfolding entry_text
returns g c =
    prints_last_as c.put_bytes.new.sink c.put_bytes.new.self (spelling_of_message c.args.entry.now.message ++ line_end)
    (entry_text c.args.number c.args.entry.now) c.put_bytes.result
    (entry_parts (decimal c.args.number) (decimal c.args.entry.now.feed) (decimal c.args.entry.now.line) (spelling_of_message c.args.entry.now.message)) c.in-Ok.ensures
    (prints_last c.put_bytes.new.sink c.put_bytes.new.self line_end c.put_bytes.result c.in-Ok-put_message.ensures c.put_bytes.ensures)
