use Rattle.std.proofs.lemmas.List.Elements.{All-nil}
use Rattle.dm_outside.proofs.Printing.{prints_none, prints_next, prints_fault_next}
use Rattle.dm_cert.proofs.Fitting.{fits_next}
use Rattle.dm_cert.proofs.listed.put_listed.Goals as goal

pub loop-item-init : goal.loop-item-init
loop-item-init g c = (prints_none _ _, All-nil g.L.Listed.is_within)

pub loop-item-preserved : goal.loop-item-preserved
loop-item-preserved g c = (
  prints_next _ _ _ c.loop-item-test.true c.item-item.is c.loop-item.invariant.0 c.in-Ok.ensures.prints,
  fits_next g.L.Listed.is_within c.args.items.now c.loop-item.item-index _ _ c.loop-item-test.true c.item-item.is c.loop-item.invariant.1 c.in-Ok.ensures.fits,
)

pub returns-in_default-clause-text : goal.returns-in_default-clause-text
returns-in_default-clause-text g c = prints_fault_next _ _ _ c.loop-item-test.true c.item-item.is c.loop-item.invariant.0 c.in_default.ensures.prints
