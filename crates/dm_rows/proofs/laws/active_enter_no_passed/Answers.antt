use Rattle.dm_rows.proofs.AsGraph.{active_enter_no_passed}
use Rattle.dm_rows.proofs.laws.active_enter_no_passed.Goals as goal

pub returns : goal.returns
returns c = active_enter_no_passed
