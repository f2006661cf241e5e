use Rattle.std.proofs.Common.{◌++◌}
use Rattle.std.specs.Prelude.{codes, [], ◌∷◌}
use Rattle.std.specs.Fmt.{decimal}
use Rattle.dm_outside.specs.Printing.{joined}
use Rattle.dm_cert.specs.PlanTexts.{line_end}
use Rattle.dm_cert.specs.RunTexts.{reason_text}
use Rattle.dm_outside.proofs.Printing.{prints_fault, prints_fault_at, prints_last}
use Rattle.dm_report.proofs.Printed.{breaks_as, prints_last_as, refusal_parts}
use Rattle.dm_report.proofs.answers.put_refusal.Goals as goal

pub returns-in_default : goal.returns-in_default
returns-in_default g c =
    breaks_as (refusal_parts (decimal c.args.at.now.entry) (reason_text c.args.at.now.why)) (prints_fault (reason_text c.args.at.now.why ++ line_end) c.in_default.ensures)

pub returns-in_default-put_reason : goal.returns-in_default-put_reason
returns-in_default-put_reason g c =
    breaks_as (refusal_parts (decimal c.args.at.now.entry) (reason_text c.args.at.now.why)) (prints_fault_at line_end c.in-Ok.ensures c.in_default-put_reason.ensures)

pub returns : goal.returns
returns g c =
    prints_last_as c.put_bytes.new.sink c.put_bytes.new.self (reason_text c.args.at.now.why ++ line_end)
    (joined (decimal c.args.at.now.entry ∷ codes " refused " ∷ reason_text c.args.at.now.why ∷ line_end ∷ [])) c.put_bytes.result
    (refusal_parts (decimal c.args.at.now.entry) (reason_text c.args.at.now.why)) c.in-Ok.ensures
    (prints_last c.put_bytes.new.sink c.put_bytes.new.self line_end c.put_bytes.result c.in-Ok-put_reason.ensures c.put_bytes.ensures)
