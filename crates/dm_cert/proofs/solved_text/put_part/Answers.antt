use Rattle.std.proofs.Common.{◌++◌, codes, append-nil, []}
use Rattle.std.specs.List.{flat_map}
use Rattle.dm_outside.proofs.Printing.{prints_fault, prints_fault_at, prints_then_fault, prints_last}
use Rattle.dm_cert.specs.SolvedTexts.{arrivals_of, changes_of, ids_text, part_node_text, part_text}
use Rattle.dm_cert.proofs.Fitting.{part_fits}
use Rattle.dm_cert.proofs.solved_text.put_part.Goals as goal

pub returns-in_default-clause-text : goal.returns-in_default-clause-text
unfolding part_text
returns-in_default-clause-text g c =
    let share = c.args.part.now.share in
    prints_fault (ids_text (codes "events") (arrivals_of share) ++ (ids_text (codes "changes") (changes_of share) ++ (flat_map part_node_text c.args.part.now.tree ++ []))) c.in_default.ensures.text

pub returns-in_default-put_ids-clause-text : goal.returns-in_default-put_ids-clause-text
unfolding part_text
returns-in_default-put_ids-clause-text g c =
    let share = c.args.part.now.share in
    prints_fault_at (ids_text (codes "changes") (changes_of share) ++ (flat_map part_node_text c.args.part.now.tree ++ [])) c.in-Ok.ensures.text (rw (← c.as_slice.ensures) c.in_default-put_ids.ensures.text)

pub returns-in_default-put_ids-2-clause-text : goal.returns-in_default-put_ids-2-clause-text
unfolding part_text
returns-in_default-put_ids-2-clause-text g c =
    let arrivals = rw c.as_slice.ensures at c.in-Ok-put_ids.ensures.text in
    prints_then_fault c.in-Ok.ensures.text
    (prints_fault_at (flat_map part_node_text c.args.part.now.tree ++ []) arrivals (rw (← c.as_slice-2.ensures) c.in_default-put_ids-2.ensures.text))

pub returns-clause-text : goal.returns-clause-text
unfolding part_text
returns-clause-text g c =
    let share = c.args.part.now.share in
    let arrivals = rw c.as_slice.ensures at c.in-Ok-put_ids.ensures.text in
    let changes = rw c.as_slice-2.ensures at c.in-Ok-put_ids-2.ensures.text in
    let nodes = rw c.as_slice-3.ensures at c.put_listed.ensures.text in
    let tree = flat_map part_node_text c.args.part.now.tree in
    rw (append-nil tree)
    (prints_last c.put_listed.new.sink c.put_listed.new.page (ids_text (codes "events") (arrivals_of share) ++ (ids_text (codes "changes") (changes_of share) ++ tree)) c.put_listed.result c.in-Ok.ensures.text
    (prints_last c.put_listed.new.sink c.put_listed.new.page (ids_text (codes "changes") (changes_of share) ++ tree) c.put_listed.result arrivals
    (prints_last c.put_listed.new.sink c.put_listed.new.page tree c.put_listed.result changes nodes)))

pub returns-clause-fits : goal.returns-clause-fits
returns-clause-fits g c =
    let arrivals = rw c.as_slice.ensures at c.in-Ok-put_ids.ensures.fits in
    let changes = rw c.as_slice-2.ensures at c.in-Ok-put_ids-2.ensures.fits in
    let nodes = rw c.as_slice-3.ensures at c.put_listed.ensures.fits in
    part_fits c.put_listed.result c.args.part.now c.in-Ok.ensures.bound arrivals changes nodes
