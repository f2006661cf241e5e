use Rattle.dm_rows.proofs.Holding.{binds_at_start_or_takes_time}
use Rattle.dm_rows.proofs.laws.binds_at_start_or_takes_time.Goals as goal

pub returns : goal.returns
returns c = binds_at_start_or_takes_time
