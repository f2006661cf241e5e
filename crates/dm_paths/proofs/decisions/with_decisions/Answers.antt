use Rattle.dm_paths.proofs.Setting.{reaches_rows}
use Rattle.dm_paths.proofs.decisions.with_decisions.Goals as goal

pub apply-requires : goal.apply-requires
apply-requires c = reaches_rows c.args.net.now c.loop-decision.set c.flip_of-flip.result c.loop-decision.invariant.sized c.flip_of-flip.ensures.reaches
