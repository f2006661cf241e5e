use Rattle.std.proofs.Common.{refl}
use Rattle.dm_outside.proofs.Printing.{prints_next, prints_fault_next}
use Rattle.dm_outlook.specs.Texts.{kept_text}
use Rattle.dm_outlook.proofs.printing.put_kept_choices.Goals as goal

pub loop-kept-preserved : goal.loop-kept-preserved
loop-kept-preserved g c = prints_next kept_text c.args.choices.now _ c.loop-kept-test.true refl c.loop-kept.invariant c.in-Ok.ensures

pub returns-in_default : goal.returns-in_default
returns-in_default g c = prints_fault_next kept_text c.args.choices.now _ c.loop-kept-test.true refl c.loop-kept.invariant c.in_default.ensures
