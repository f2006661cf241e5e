use Rattle.std.specs.Prelude.{[], ◌∷◌}
use Rattle.std.specs.Fmt.{decimal}
use Rattle.dm_outside.specs.Printing.{joined}
use Rattle.dm_outside.proofs.Printing.{prints_fault}
use Rattle.dm_report.proofs.Printed.{breaks_as, prints_last_as, number_parts}
use Rattle.dm_report.proofs.words.put_number.Goals as goal

pub returns-in_default : goal.returns-in_default
returns-in_default g c =
    breaks_as (number_parts c.args.before.now (decimal c.args.number) c.args.after.now) (prints_fault c.args.after.now c.in_default.ensures)

pub returns : goal.returns
returns g c =
    prints_last_as c.put_bytes.new.sink c.put_bytes.new.self c.args.after.now (joined (c.args.before.now ∷ decimal c.args.number ∷ c.args.after.now ∷ []))
    c.put_bytes.result (number_parts c.args.before.now (decimal c.args.number) c.args.after.now) c.in-Ok.ensures (rw c.as_bytes.ensures.value at c.put_bytes.ensures)
