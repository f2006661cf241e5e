use Rattle.dm_rows.proofs.AtStart.{active_at_start_binds}
use Rattle.dm_rows.proofs.laws.active_at_start_binds.Goals as goal

pub returns : goal.returns
returns c = active_at_start_binds
