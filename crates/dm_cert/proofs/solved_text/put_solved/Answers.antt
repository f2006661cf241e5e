use Rattle.std.proofs.Common.{◌++◌, append-nil, []}
use Rattle.std.specs.List.{flat_map}
use Rattle.dm_outside.proofs.Printing.{prints_fault, prints_fault_at, prints_then_fault, prints_last}
use Rattle.dm_cert.specs.PlanTexts.{choice_text}
use Rattle.dm_cert.specs.SolvedTexts.{part_text, rest_text, spelling_of_solved}
use Rattle.dm_cert.proofs.Fitting.{solved_fits}
use Rattle.dm_cert.proofs.solved_text.put_solved.Goals as goal

pub returns-in_default-clause-text : goal.returns-in_default-clause-text
unfolding spelling_of_solved
returns-in_default-clause-text g c =
    let plan = c.args.plan.now in
    prints_fault (flat_map choice_text plan.choices ++ (flat_map part_text plan.parts ++ (rest_text plan.rest ++ []))) c.in_default.ensures.text

pub returns-in_default-put_choices-clause-text : goal.returns-in_default-put_choices-clause-text
unfolding spelling_of_solved
returns-in_default-put_choices-clause-text g c =
    let plan = c.args.plan.now in
    prints_fault_at (flat_map part_text plan.parts ++ (rest_text plan.rest ++ [])) c.in-Ok.ensures.text (rw (← c.as_slice.ensures) c.in_default-put_choices.ensures.text)

pub returns-in_default-put_parts-clause-text : goal.returns-in_default-put_parts-clause-text
unfolding spelling_of_solved
returns-in_default-put_parts-clause-text g c =
    let choices = rw c.as_slice.ensures at c.in-Ok-put_choices.ensures.text in
    prints_then_fault c.in-Ok.ensures.text
    (prints_fault_at (rest_text c.args.plan.now.rest ++ []) choices (rw (← c.as_slice-2.ensures) c.in_default-put_parts.ensures.text))

pub returns-clause-text : goal.returns-clause-text
unfolding spelling_of_solved
returns-clause-text g c =
    let plan = c.args.plan.now in
    let choices = rw c.as_slice.ensures at c.in-Ok-put_choices.ensures.text in
    let parts = rw c.as_slice-2.ensures at c.in-Ok-put_parts.ensures.text in
    rw (append-nil (rest_text plan.rest))
    (prints_last c.put_rest.new.sink c.put_rest.new.page (flat_map choice_text plan.choices ++ (flat_map part_text plan.parts ++ rest_text plan.rest)) c.put_rest.result c.in-Ok.ensures.text
    (prints_last c.put_rest.new.sink c.put_rest.new.page (flat_map part_text plan.parts ++ rest_text plan.rest) c.put_rest.result choices
    (prints_last c.put_rest.new.sink c.put_rest.new.page (rest_text plan.rest) c.put_rest.result parts c.put_rest.ensures.text)))

pub returns-clause-fits : goal.returns-clause-fits
returns-clause-fits g c =
    let choices = rw c.as_slice.ensures at c.in-Ok-put_choices.ensures.fits in
    let parts = rw c.as_slice-2.ensures at c.in-Ok-put_parts.ensures.fits in
    solved_fits c.put_rest.result c.args.plan.now c.in-Ok.ensures.cost c.in-Ok.ensures.bound choices parts c.put_rest.ensures.fits
