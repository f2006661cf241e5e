use Rattle.dm_rows.proofs.AsGraph.{relaxed_enter_no_passed}
use Rattle.dm_rows.proofs.laws.relaxed_enter_no_passed.Goals as goal

pub returns : goal.returns
returns c = relaxed_enter_no_passed
