use Rattle.dm_stretch.proofs.Carrying.{all_free}
use Rattle.dm_stretch.proofs.rebasing.first_not_free.Goals as goal

pub returns-clause-none : goal.returns-clause-none
returns-clause-none c = all_free c.args.net.now c.args.rows.now c.args.decisions.now _ c.loop-decision-test.false c.loop-decision.invariant
