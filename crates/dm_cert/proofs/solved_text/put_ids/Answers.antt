use Rattle.std.proofs.Common.{◌≤◌, ◌++◌, codes, sym, subst, All}
use Rattle.std.specs.List.{flat_map}
use Rattle.std.proofs.lemmas.List.Elements.{All-nil}
use Rattle.dm_outside.proofs.Printing.{prints_none, prints_fault, prints_fault_at, prints_last}
use Rattle.dm_feed.specs.Parts.{largest_id}
use Rattle.dm_cert.specs.SolvedTexts.{spaced_number}
use Rattle.dm_cert.proofs.SolvedPrinted.{no_items, named_text}
use Rattle.dm_cert.proofs.solved_text.put_ids.Goals as goal

pub returns-then-is_empty-clause-text : goal.returns-then-is_empty-clause-text
returns-then-is_empty-clause-text g c = rw (no_items c.args.ids.now c.if-is_empty.ensures) (prints_none _ _)

pub returns-then-is_empty-clause-fits : goal.returns-then-is_empty-clause-fits
returns-then-is_empty-clause-fits g c =
    let P : _ → Type 0 = λ id. g.I.Numbered.number id ≤ largest_id in
    subst (All P) (sym (no_items c.args.ids.now c.if-is_empty.ensures)) (All-nil P)

pub returns-in_default-clause-text : goal.returns-in_default-clause-text
returns-in_default-clause-text g c =
    rw (named_text c.args.word.now g.I.Numbered.number c.args.ids.now c.if-is_empty.ensures)
    (prints_fault (flat_map (λ id. spaced_number (g.I.Numbered.number id)) c.args.ids.now ++ codes "\n") (rw c.as_bytes.ensures.value at c.in_default.ensures))

pub returns-in_default-put_spaced-clause-text : goal.returns-in_default-put_spaced-clause-text
returns-in_default-put_spaced-clause-text g c =
    rw (named_text c.args.word.now g.I.Numbered.number c.args.ids.now c.if-is_empty.ensures)
    (prints_fault_at (codes "\n") (rw c.as_bytes.ensures.value at c.in-Ok.ensures) c.in_default-put_spaced.ensures.text)

pub returns-clause-text : goal.returns-clause-text
returns-clause-text g c =
    let ids = flat_map (λ id. spaced_number (g.I.Numbered.number id)) c.args.ids.now in
    rw (named_text c.args.word.now g.I.Numbered.number c.args.ids.now c.if-is_empty.ensures)
    (prints_last c.put_bytes-2.new.sink c.put_bytes-2.new.self (ids ++ codes "\n") c.put_bytes-2.result (rw c.as_bytes.ensures.value at c.in-Ok.ensures)
    (prints_last c.put_bytes-2.new.sink c.put_bytes-2.new.self (codes "\n") c.put_bytes-2.result c.in-Ok-put_spaced.ensures.text c.put_bytes-2.ensures))
