use Rattle.std.proofs.Common.{◌++◌}
use Rattle.dm_feed.specs.Lines.{spelling_of_decision}
use Rattle.dm_outside.proofs.Printing.{prints_fault, prints_fault_at, prints_last}
use Rattle.dm_outlook.specs.Texts.{kept_text, worth_text}
use Rattle.dm_outlook.proofs.printing.put_kept.Goals as goal

pub returns-in_default : goal.returns-in_default
unfolding kept_text
returns-in_default g c = prints_fault (spelling_of_decision c.args.kept.decision ++ worth_text c.args.kept.worth) c.in_default.ensures

pub returns-in_default-put_decision : goal.returns-in_default-put_decision
unfolding kept_text
returns-in_default-put_decision g c = prints_fault_at (worth_text c.args.kept.worth) c.in-Ok.ensures c.in_default-put_decision.ensures

pub returns : goal.returns
unfolding kept_text
returns g c =
    prints_last c.put_worth.new.sink c.put_worth.new.page (spelling_of_decision c.args.kept.decision ++ worth_text c.args.kept.worth) c.put_worth.result c.in-Ok.ensures
    (prints_last c.put_worth.new.sink c.put_worth.new.page (worth_text c.args.kept.worth) c.put_worth.result c.in-Ok-put_decision.ensures c.put_worth.ensures)
