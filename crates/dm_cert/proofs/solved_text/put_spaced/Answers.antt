use Rattle.std.proofs.Common.{◌≤◌, arith}
use Rattle.std.proofs.lemmas.List.Elements.{All-nil}
use Rattle.dm_outside.proofs.Printing.{prints_none, prints_next, prints_fault_next}
use Rattle.dm_feed.specs.Parts.{largest_id}
use Rattle.dm_cert.specs.SolvedTexts.{spaced_number}
use Rattle.dm_cert.proofs.Fitting.{fits_next}
use Rattle.dm_cert.proofs.SolvedPrinted.{one_spaced}
use Rattle.dm_cert.proofs.solved_text.put_spaced.Goals as goal

pub loop-id-init : goal.loop-id-init
loop-id-init g c = (prints_none _ _, All-nil (λ id. g.I.Numbered.number id ≤ largest_id))

pub loop-id-preserved : goal.loop-id-preserved
loop-id-preserved g c =
    let is = c.number.ensures in
    let printed = rw (one_spaced _ _ is) at c.in-Ok.ensures in (
      prints_next (λ id. spaced_number (g.I.Numbered.number id)) _ _ c.loop-id-test.true c.id-item.is c.loop-id.invariant.0 printed,
      fits_next (λ id. g.I.Numbered.number id ≤ largest_id) c.args.ids.now c.loop-id.id-index _ _ c.loop-id-test.true c.id-item.is c.loop-id.invariant.1 (omega (arith, is)),
    )

pub returns-in_default-clause-text : goal.returns-in_default-clause-text
returns-in_default-clause-text g c =
    let failed = rw (one_spaced _ _ c.number.ensures) at c.in_default.ensures in
    prints_fault_next (λ id. spaced_number (g.I.Numbered.number id)) _ _ c.loop-id-test.true c.id-item.is c.loop-id.invariant.0 failed
