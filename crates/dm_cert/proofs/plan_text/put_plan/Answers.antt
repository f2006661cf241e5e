use Rattle.std.proofs.Common.{◌++◌}
use Rattle.std.specs.List.{flat_map}
use Rattle.dm_outside.proofs.Printing.{prints_fault, prints_fault_at, prints_last}
use Rattle.dm_cert.specs.PlanTexts.{choice_text, node_text, spelling_of_plan}
use Rattle.dm_cert.proofs.Fitting.{plan_fits}
use Rattle.dm_cert.proofs.plan_text.put_plan.Goals as goal

pub returns-in_default-clause-text : goal.returns-in_default-clause-text
unfolding spelling_of_plan
returns-in_default-clause-text g c = prints_fault (flat_map choice_text c.args.plan.now.choices ++ flat_map node_text c.args.plan.now.tree) c.in_default.ensures.text

pub returns-in_default-put_choices-clause-text : goal.returns-in_default-put_choices-clause-text
unfolding spelling_of_plan
returns-in_default-put_choices-clause-text g c =
    prints_fault_at (flat_map node_text c.args.plan.now.tree) c.in-Ok.ensures.text (rw (← c.as_slice.ensures) c.in_default-put_choices.ensures.text)

pub returns-clause-text : goal.returns-clause-text
unfolding spelling_of_plan
returns-clause-text g c =
    let choices = rw c.as_slice.ensures at c.in-Ok-put_choices.ensures.text in
    let nodes = rw c.as_slice-2.ensures.nodes at c.put_listed.ensures.text in
    prints_last c.put_listed.new.sink c.put_listed.new.page (flat_map choice_text c.args.plan.now.choices ++ flat_map node_text c.args.plan.now.tree) c.put_listed.result c.in-Ok.ensures.text
    (prints_last c.put_listed.new.sink c.put_listed.new.page (flat_map node_text c.args.plan.now.tree) c.put_listed.result choices nodes)

pub returns-clause-fits : goal.returns-clause-fits
returns-clause-fits g c =
    let choices = rw c.as_slice.ensures at c.in-Ok-put_choices.ensures.fits in
    let nodes = rw c.as_slice-2.ensures.nodes at c.put_listed.ensures.fits in
    plan_fits c.put_listed.result c.args.plan.now c.in-Ok.ensures.cost c.in-Ok.ensures.bound choices c.as_slice-2.ensures.whole nodes
