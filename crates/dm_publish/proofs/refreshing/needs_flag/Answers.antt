use Rattle.dm_publish.proofs.Refreshed.{flag_needed}
use Rattle.dm_publish.proofs.refreshing.needs_flag.Goals as goal

pub returns : goal.returns
returns g c = flag_needed _ c.args.event c.args.cancelled c.is_marked.result c.is_marked.ensures
