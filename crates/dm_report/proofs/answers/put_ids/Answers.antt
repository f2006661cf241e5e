use Rattle.std.proofs.Common.{refl}
use Rattle.dm_cert.specs.RunTexts.{spaced_id}
use Rattle.dm_outside.proofs.Printing.{prints_next, prints_fault_next}
use Rattle.dm_report.proofs.answers.put_ids.Goals as goal

pub loop-id-preserved : goal.loop-id-preserved
loop-id-preserved g c = prints_next spaced_id c.args.ids.now _ c.loop-id-test.true refl c.loop-id.invariant c.in-Ok.ensures

pub returns-in_default : goal.returns-in_default
returns-in_default g c = prints_fault_next spaced_id c.args.ids.now _ c.loop-id-test.true refl c.loop-id.invariant c.in_default.ensures
