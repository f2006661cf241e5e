use Rattle.dm_restore.proofs.HeadsRead.{reads_head}
use Rattle.dm_restore.proofs.heads.read_head.Goals as goal

pub returns : goal.returns
returns c = reads_head c.args.content.now c.head_in.result c.head_in.ensures
