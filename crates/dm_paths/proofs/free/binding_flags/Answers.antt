use Rattle.dm_paths.proofs.Flagged.{one_flag_more}
use Rattle.dm_paths.proofs.free.binding_flags.Goals as goal

pub loop-a-preserved : goal.loop-a-preserved
loop-a-preserved c = one_flag_more _ c.loop-a.a c.loop-a.flags.items _ c.binds.result c.loop-a.invariant c.binds.ensures c.in_ok-push.ensures.items
