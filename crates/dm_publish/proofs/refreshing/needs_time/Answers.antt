use Rattle.dm_publish.proofs.Refreshed.{time_needed}
use Rattle.dm_publish.proofs.refreshing.needs_time.Goals as goal

pub returns : goal.returns
returns g c = time_needed _ _ c.args.event c.args.time c.args.cancelled c.shows.result c.shows.ensures
