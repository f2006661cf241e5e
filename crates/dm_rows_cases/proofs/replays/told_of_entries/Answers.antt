use Rattle.dm_rows_cases.proofs.Sized.{replayed_sizes}
use Rattle.dm_rows_cases.proofs.replays.told_of_entries.Goals as goal

pub told_of_times-requires : goal.told_of_times-requires
told_of_times-requires c = replayed_sizes c.args.net.now c.args.start.now c.in-Ok.rows c.args.entries.now c.in-Ok.ensures.rows c.requires
