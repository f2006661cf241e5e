use Rattle.dm_outside.proofs.Printing.{put_more}
use Rattle.dm_outside.proofs.put.put_all.Goals as goal

pub loop-rest-preserved : goal.loop-rest-preserved
loop-rest-preserved g c =
    put_more c.in-Ok.count c.loop-rest.invariant c.in-Ok.ensures.appends c.in-Ok.ensures.cause.later
