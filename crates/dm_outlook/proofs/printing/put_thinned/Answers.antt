use Rattle.std.specs.List.{flat_map}
use Rattle.dm_outside.proofs.Printing.{prints_fault, prints_last}
use Rattle.dm_outlook.specs.Texts.{kept_text, minimal_line, thinned_text}
use Rattle.dm_outlook.proofs.printing.put_thinned.Goals as goal

pub returns-in_default : goal.returns-in_default
unfolding minimal_line thinned_text
returns-in_default g c = prints_fault (flat_map kept_text c.args.minimal.now.choices) (rw c.as_slice-choices.ensures at c.in_default.ensures)

pub returns : goal.returns
unfolding minimal_line thinned_text
returns g c =
    prints_last c.put_kept_choices.new.sink c.put_kept_choices.new.page (flat_map kept_text c.args.minimal.now.choices) c.put_kept_choices.result
    (rw c.as_slice-choices.ensures at c.in-Ok.ensures) (rw c.as_slice-choices.ensures at c.put_kept_choices.ensures)
