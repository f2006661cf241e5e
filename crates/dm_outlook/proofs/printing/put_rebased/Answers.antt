use Rattle.std.specs.List.{flat_map}
use Rattle.dm_cert.specs.PlanTexts.{choice_text}
use Rattle.dm_outside.proofs.Printing.{prints_fault, prints_last}
use Rattle.dm_outlook.specs.Texts.{rebased_line, rebased_text}
use Rattle.dm_outlook.proofs.printing.put_rebased.Goals as goal

pub returns-in_default : goal.returns-in_default
unfolding rebased_line rebased_text
returns-in_default g c = prints_fault (flat_map choice_text c.args.rebased.now.choices) (rw c.as_slice-choices.ensures at c.in_default.ensures)

pub returns : goal.returns
unfolding rebased_line rebased_text
returns g c =
    prints_last c.put_choices.new.sink c.put_choices.new.page (flat_map choice_text c.args.rebased.now.choices) c.put_choices.result (rw c.as_slice-choices.ensures at c.in-Ok.ensures) (rw c.as_slice-choices.ensures at c.put_choices.ensures.text)
