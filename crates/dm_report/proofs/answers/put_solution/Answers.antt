use Rattle.std.specs.Prelude.{codes, [], ◌∷◌}
use Rattle.dm_outside.specs.Printing.{joined}
use Rattle.std.specs.Fmt.{decimal}
use Rattle.dm_cert.specs.SolvedTexts.{spelling_of_solved}
use Rattle.dm_outside.proofs.Printing.{prints_fault}
use Rattle.dm_report.proofs.Printed.{breaks_as, prints_last_as, plan_parts}
use Rattle.dm_report.proofs.answers.put_solution.Goals as goal

pub returns-in_default : goal.returns-in_default
returns-in_default g c =
    breaks_as (plan_parts (decimal c.args.plan.now.entry) (spelling_of_solved c.args.plan.now)) (prints_fault (spelling_of_solved c.args.plan.now) c.in_default.ensures)

pub returns : goal.returns
returns g c =
    prints_last_as c.put_solved.new.sink c.put_solved.new.page (spelling_of_solved c.args.plan.now)
    (joined (decimal c.args.plan.now.entry ∷ codes " " ∷ spelling_of_solved c.args.plan.now ∷ [])) c.put_solved.result
    (plan_parts (decimal c.args.plan.now.entry) (spelling_of_solved c.args.plan.now)) c.in-Ok.ensures c.put_solved.ensures.text
