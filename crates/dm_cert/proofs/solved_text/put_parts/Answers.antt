use Rattle.std.proofs.lemmas.List.Elements.{All-nil}
use Rattle.dm_outside.proofs.Printing.{prints_none, prints_next, prints_fault_next}
use Rattle.dm_cert.specs.SolvedTexts.{part_text, FitsPart}
use Rattle.dm_cert.proofs.Fitting.{fits_next}
use Rattle.dm_cert.proofs.solved_text.put_parts.Goals as goal

pub loop-part-init : goal.loop-part-init
loop-part-init g c = (prints_none _ _, All-nil FitsPart)

pub loop-part-preserved : goal.loop-part-preserved
loop-part-preserved g c = (
  prints_next part_text _ _ c.loop-part-test.true c.part-item.is c.loop-part.invariant.0 c.in-Ok.ensures.text,
  fits_next FitsPart c.args.parts.now c.loop-part.part-index _ _ c.loop-part-test.true c.part-item.is c.loop-part.invariant.1 c.in-Ok.ensures.fits,
)

pub returns-in_default-clause-text : goal.returns-in_default-clause-text
returns-in_default-clause-text g c = prints_fault_next part_text _ _ c.loop-part-test.true c.part-item.is c.loop-part.invariant.0 c.in_default.ensures.text
