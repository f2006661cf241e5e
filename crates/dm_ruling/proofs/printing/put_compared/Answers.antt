use Rattle.std.proofs.Common.{◌++◌}
use Rattle.std.specs.List.{flat_map}
use Rattle.dm_cert.specs.PlanTexts.{choice_text}
use Rattle.dm_outside.proofs.Printing.{prints_fault, prints_fault_at, prints_last}
use Rattle.dm_ruling.specs.Texts.{compared_text, gap_text}
use Rattle.dm_ruling.proofs.printing.put_compared.Goals as goal

pub returns-in_default : goal.returns-in_default
unfolding compared_text
returns-in_default g c = prints_fault (flat_map choice_text c.args.compared.now.choices ++ gap_text c.args.compared.now.cost c.args.compared.now.plan) c.in_default.ensures

pub returns-in_default-put_choices : goal.returns-in_default-put_choices
unfolding compared_text
returns-in_default-put_choices g c =
    prints_fault_at (gap_text c.args.compared.now.cost c.args.compared.now.plan) c.in-Ok.ensures (rw (← c.as_slice.ensures) c.in_default-put_choices.ensures.text)

pub returns : goal.returns
unfolding compared_text
returns g c =
    let choices = rw c.as_slice.ensures at c.in-Ok-put_choices.ensures.text in
    prints_last c.put_gap.new.sink c.put_gap.new.page (flat_map choice_text c.args.compared.now.choices ++ gap_text c.args.compared.now.cost c.args.compared.now.plan) c.put_gap.result c.in-Ok.ensures
    (prints_last c.put_gap.new.sink c.put_gap.new.page (gap_text c.args.compared.now.cost c.args.compared.now.plan) c.put_gap.result choices c.put_gap.ensures)
