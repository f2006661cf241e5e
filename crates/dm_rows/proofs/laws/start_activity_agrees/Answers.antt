use Rattle.dm_rows.proofs.AtStart.{start_activity_agrees}
use Rattle.dm_rows.proofs.laws.start_activity_agrees.Goals as goal

pub returns : goal.returns
returns c = start_activity_agrees
